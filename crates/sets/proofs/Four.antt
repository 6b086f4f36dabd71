-- The laws of a set's four words: those of one word more, four times. Assumes nothing.
use mathlib.Core.Path.{◌≡◌, refl, sym, ap, ◌∙◌, subst}
use mathlib.Core.List.{[], ◌∷◌}
use Prim.Native.Nat.{ℕ, ◌+◌, ◌-◌, ◌*◌, ◌/◌, ◌%◌, ◌^◌, ◌≤◌, ◌<◌}
use native.Mathlib.Nat.{mod-one, add-zero}
use native.Mathlib.Omega.{arith}
use lib.Bits.{bit_and, bit_or, bit_xor, and_block, or_block, xor_block, and_zero_l, or_zero_l, or_zero_r, xor_zero_l}
use lib.Bits.{or_add_and, and_le_l, and_le_r}
use lib.Dec.{lit<}
use lib.ListN.{get_or}
use Rattle.bases.specs.Base.{Word, base_of, Empty, Least, Greatest}
use Rattle.bases.proofs.Laws.{first_word, next_words, none_in_zero, greatest_next}
use Rattle.bases.proofs.Words.{bound_more, first_words, word_at}
use Rattle.plain.specs.All.{All}
use Rattle.plain.specs.All.All.{none, more}
use Rattle.sets.specs.declared.Set.{Set}
use Rattle.sets.specs.Set.{set_of, Exactly, Proper}
use Rattle.sets.proofs.Exact.{exactly_as, none_exactly}
use Rattle.sets.proofs.Words.{no_word, exactly_more, Bitwise, each_more, down_more, down_last, up_more}
use Rattle.sets.proofs.Words.{empty_more, more_empty, least_here, least_later, greatest_here}

-- ---- how far a set goes

pub set_bound : (s : Set) → Proper s → set_of s < 2 ^ 256
unfolding set_of
set_bound s f =
    bound_more 192 _ _ f.a (bound_more 128 _ _ f.b (bound_more 64 _ _ f.c (bound_more 0 _ _ f.d (rw no_word (lit< tt)))))

-- ---- its words

pub words_of_lem : (s : Set) → Proper s → All Word (s.a ∷ (s.b ∷ (s.c ∷ (s.d ∷ []))))
words_of_lem s f = more f.a (more f.b (more f.c (more f.d none)))

-- word k is that one of the four
pub word_of : (s : Set) → Proper s → (k : ℕ) {w : ℕ} (j : ℕ) → k ≡ j → get_or (s.a ∷ (s.b ∷ (s.c ∷ (s.d ∷ [])))) j 0 ≡ w
    → w ≡ set_of s / 2 ^ (k * 64) % 2 ^ 64
unfolding set_of
word_of s f k j e v = sym v ∙ ap (λ (i : ℕ). get_or (s.a ∷ (s.b ∷ (s.c ∷ (s.d ∷ [])))) i 0) (sym e) ∙ word_at k (words_of_lem s f)

-- one word below them: the last is lost
pub over_words : (s : Set) → Proper s → (w : ℕ) → w < 2 ^ 64 → set_of (record { a = w; b = s.a; c = s.b; d = s.c }) ≡ (set_of s * 2 ^ 64 + w) % 2 ^ 256
unfolding set_of base_of
over_words s f w h = first_words 4 (more h (words_of_lem s f))

-- ---- which numbers it holds, by those of each word

pub four_exactly : {P : ℕ → Type 0} (s : Set) → Proper s → ((e : ℕ) → P e → e < 256)
    → Exactly s.a (λ e. (e < 64) × P (0 + e)) → Exactly s.b (λ e. (e < 64) × P (64 + e))
    → Exactly s.c (λ e. (e < 64) × P (128 + e)) → Exactly s.d (λ e. (e < 64) × P (192 + e)) → Exactly (set_of s) P
unfolding set_of
four_exactly {P} s f u a b c d =
    exactly_more s.a _ f.a (moved 0 (λ e. e) (λ e. omega arith) a)
    (exactly_more s.b _ f.b b
    (exactly_more s.c _ f.c (moved 128 (λ e. 64 + (64 + e)) (λ e. omega arith) c)
    (exactly_more s.d _ f.d (moved 192 (λ e. 64 + (64 + (64 + e))) (λ e. omega arith) d)
    (none_exactly no_word (λ e p. let l = u _ p in omega arith)))))
  where
    moved : {w : ℕ} (k : ℕ) (at : ℕ → ℕ) → ((e : ℕ) → k + e ≡ at e)
        → Exactly w (λ e. (e < 64) × P (k + e)) → Exactly w (λ e. (e < 64) × P (at e))
    moved k at same = exactly_as (λ e h. (h.0, subst P (same e) h.1)) (λ e h. (h.0, subst P (sym (same e)) h.1))

-- ---- an operation on each word

abbrev pub each : (ℕ → ℕ → ℕ) → Set → Set → Set
each op s t = record { a = op s.a t.a; b = op s.b t.b; c = op s.c t.c; d = op s.d t.d }

module _ (s t : Set) (f : Proper s) (g : Proper t) where
  each_word : (op : ℕ → ℕ → ℕ) → Bitwise op → op 0 0 ≡ 0 → set_of (each op s t) ≡ op (set_of s) (set_of t)
  unfolding set_of
  each_word op bits z =
      each_more op bits _ _ _ _ _ f.a g.a (each_more op bits _ _ _ _ _ f.b g.b
      (each_more op bits _ _ _ _ _ f.c g.c (each_more op bits _ _ _ _ _ f.d g.d (rw no_word (sym z)))))

  pub both_words : set_of (each bit_and s t) ≡ bit_and (set_of s) (set_of t)
  both_words = each_word bit_and and_block (and_zero_l 0)

  pub either_words : set_of (each bit_or s t) ≡ bit_or (set_of s) (set_of t)
  either_words = each_word bit_or or_block (or_zero_l 0)

  pub differing_words : set_of (each bit_xor s t) ≡ bit_xor (set_of s) (set_of t)
  differing_words = each_word bit_xor xor_block (xor_zero_l 0)

-- ---- one down and one up

pub down_words : (s : Set) → Proper s → set_of (record {
  a = bit_or (s.a / 2 ^ 1) ((s.b * 2 ^ 63) % 2 ^ 64);
  b = bit_or (s.b / 2 ^ 1) ((s.c * 2 ^ 63) % 2 ^ 64);
  c = bit_or (s.c / 2 ^ 1) ((s.d * 2 ^ 63) % 2 ^ 64);
  d = s.d / 2 ^ 1;
}) ≡ set_of s / 2
unfolding set_of
down_words s f = down_more _ _ _ _ f.a (down_more _ _ _ _ f.b (down_more _ _ _ _ f.c (down_last s.d)))

pub up_words : (s : Set) → Proper s → set_of (record {
  a = (s.a * 2 ^ 1) % 2 ^ 64;
  b = bit_or ((s.b * 2 ^ 1) % 2 ^ 64) (s.a / 2 ^ 63);
  c = bit_or ((s.c * 2 ^ 1) % 2 ^ 64) (s.b / 2 ^ 63);
  d = bit_or ((s.d * 2 ^ 1) % 2 ^ 64) (s.c / 2 ^ 63);
}) ≡ set_of s * 2 % 2 ^ 256
unfolding set_of
up_words s f =
    let d = up_more s.d _ 0 [] [] (top f.c) (no_word ∙ sym (mod-one _)) in
    let b = up_more s.b _ 128 _ _ (top f.a) (up_more s.c _ 64 _ _ (top f.b) d) in
    rw (or_zero_r ((s.a * 2 ^ 1) % 2 ^ 64), add-zero) at (up_more s.a 0 192 _ _ (lit< tt) b)
  where
    top : {w : ℕ} → w < 2 ^ 64 → w / 2 ^ 63 < 2
    top h = omega arith

-- ---- empty

or_zero : (x y : ℕ) → bit_or x y ≡ 0 → (x ≡ 0) × (y ≡ 0)
or_zero x y e =
    let s = or_add_and x y in
    let l = and_le_l x y in
    let r = and_le_r x y in
    (omega arith, omega arith)

no_words : Empty (base_of [])
no_words = rw no_word none_in_zero

pub zeros_empty : (s : Set) → s.a ≡ 0 → s.b ≡ 0 → s.c ≡ 0 → s.d ≡ 0 → Empty (set_of s)
unfolding set_of
zeros_empty s a b c d = empty_more _ _ a (empty_more _ _ b (empty_more _ _ c (empty_more _ _ d no_words)))

pub words_empty : (s : Set) → bit_or (bit_or (bit_or s.a s.b) s.c) s.d ≡ 0 → Empty (set_of s)
words_empty s e =
    let p = or_zero _ s.d e in
    let q = or_zero _ s.c p.0 in
    let r = or_zero s.a s.b q.0 in
    zeros_empty s r.0 r.1 q.1 p.1

pub empty_words : (s : Set) → Empty (set_of s) → bit_or (bit_or (bit_or s.a s.b) s.c) s.d ≡ 0
unfolding set_of
empty_words s e =
    let p = more_empty s.a _ e in
    let q = more_empty s.b _ p.1 in
    let r = more_empty s.c _ q.1 in
    let t = more_empty s.d [] r.1 in
    rw (p.0, q.0, r.0, t.0) refl

-- ---- in which word a number stands

module _ (s : Set) (f : Proper s) (q : ℕ) where
  at : (p : ℕ) → q ≡ p → set_of s / 2 ^ q % 2 ≡ set_of s / 2 ^ p % 2
  at p e = ap (λ (x : ℕ). set_of s / 2 ^ x % 2) e

  pub in_a : q < 64 → set_of s / 2 ^ q % 2 ≡ s.a / 2 ^ q % 2
  unfolding set_of
  in_a h = first_word s.a q _ h

  pub in_b : 64 ≤ q → q < 128 → set_of s / 2 ^ q % 2 ≡ s.b / 2 ^ (q - 64) % 2
  unfolding set_of
  in_b l h = at (64 + (q - 64)) (omega arith) ∙ next_words s.a _ _ f.a ∙ first_word s.b (q - 64) _ (omega arith)

  pub in_c : 128 ≤ q → q < 192 → set_of s / 2 ^ q % 2 ≡ s.c / 2 ^ (q - 128) % 2
  unfolding set_of
  in_c l h =
      at (64 + (64 + (q - 128))) (omega arith) ∙ next_words s.a _ _ f.a ∙ next_words s.b _ _ f.b
      ∙ first_word s.c (q - 128) _ (omega arith)

  pub in_d : 192 ≤ q → q < 256 → set_of s / 2 ^ q % 2 ≡ s.d / 2 ^ (q - 192) % 2
  unfolding set_of
  in_d l h =
      at (64 + (64 + (64 + (q - 192)))) (omega arith) ∙ next_words s.a _ _ f.a ∙ next_words s.b _ _ f.b
      ∙ next_words s.c _ _ f.c ∙ first_word s.d (q - 192) _ (omega arith)

-- ---- the least, by that of the first word that holds something

module _ {t : ℕ} (s : Set) (l : t < 64) where
  pub least_a : Least s.a t → Least (set_of s) t
  unfolding set_of
  least_a h = least_here s.a _ l h

  pub least_b : s.a ≡ 0 → Least s.b t → Least (set_of s) (64 + t)
  unfolding set_of
  least_b a h = least_later s.a _ a (least_here s.b _ l h)

  pub least_c : s.a ≡ 0 → s.b ≡ 0 → Least s.c t → Least (set_of s) (128 + t)
  unfolding set_of
  least_c a b h =
      subst (Least _) (let z : 64 + (64 + t) ≡ 128 + t = omega arith in z)
      (least_later s.a _ a (least_later s.b _ b (least_here s.c _ l h)))

  pub least_d : s.a ≡ 0 → s.b ≡ 0 → s.c ≡ 0 → Least s.d t → Least (set_of s) (192 + t)
  unfolding set_of
  least_d a b c h =
      subst (Least _) (let z : 64 + (64 + (64 + t)) ≡ 192 + t = omega arith in z)
      (least_later s.a _ a (least_later s.b _ b (least_later s.c _ c (least_here s.d [] l h))))

-- ---- the greatest, by that of the last word that holds something

module _ {t : ℕ} (s : Set) (f : Proper s) where
  pub greatest_d : Greatest s.d t → Greatest (set_of s) (192 + t)
  unfolding set_of
  greatest_d h =
      subst (Greatest _) (let z : 64 + (64 + (64 + t)) ≡ 192 + t = omega arith in z)
      (greatest_next s.a _ _ f.a (greatest_next s.b _ _ f.b
      (greatest_next s.c _ _ f.c (greatest_here s.d [] no_words h))))

  pub greatest_c : s.d ≡ 0 → Greatest s.c t → Greatest (set_of s) (128 + t)
  unfolding set_of
  greatest_c d h =
      subst (Greatest _) (let z : 64 + (64 + t) ≡ 128 + t = omega arith in z)
      (greatest_next s.a _ _ f.a (greatest_next s.b _ _ f.b (greatest_here s.c _ (empty_more s.d [] d no_words) h)))

  pub greatest_b : s.d ≡ 0 → s.c ≡ 0 → Greatest s.b t → Greatest (set_of s) (64 + t)
  unfolding set_of
  greatest_b d c h = greatest_next s.a _ _ f.a (greatest_here s.b _ (empty_more s.c _ c (empty_more s.d [] d no_words)) h)

  pub greatest_a : s.d ≡ 0 → s.c ≡ 0 → s.b ≡ 0 → Greatest s.a t → Greatest (set_of s) t
  unfolding set_of
  greatest_a d c b h = greatest_here s.a _ (empty_more s.b _ b (empty_more s.c _ c (empty_more s.d [] d no_words))) h
