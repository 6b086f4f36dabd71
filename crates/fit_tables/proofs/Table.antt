-- The laws of the table: which places each character has, and the places of the characters of a base. Assumes nothing.
use mathlib.Core.Path.{◌≡◌, refl, sym, ap, ◌∙◌, subst, subst₂}
use mathlib.Core.List.{List, [], ◌∷◌}
use mathlib.Core.Logic.{◌⊎◌, inl, inr, ⊎_elim}
use Prim.Native.Nat.{ℕ, ◌+◌, ◌-◌, ◌*◌, ◌/◌, ◌%◌, ◌^◌, ◌≤◌, ◌<◌}
use native.Mathlib.Omega.{arith}
use lib.Bits.{bit_and, bit_or, or_lt}
use lib.Dec.{lit<}
use lib.ListN.{length, get_or, set, replicate, get_or-replicate, get_or-eq_default}
use lib.Pow.{pow-lt}
use lib.Seq.{get_or-set_same, get_or-set_other}
use Rattle.bases.specs.Base.{base_of, Holds, Empty, Least, codes}
use Rattle.bases.proofs.Laws.{first_word, next_words, none_in_zero}
use Rattle.plain.proofs.Plain.{lt_or_le, eq_or_ne}
use Rattle.sets.specs.declared.Set.{Set}
use Rattle.sets.specs.Set.{set_of, Exactly}
use Rattle.sets.proofs.Exact.{exactly_as, exactly_at, none_exactly, both_exactly, either_exactly, one_exactly, held_under}
use Rattle.sets.proofs.Four.{four_exactly}
use Rattle.fit_rows.specs.Rows.{row_of, Picked, AndPicked, PlacedAt, Placed, PlacesOf, SeenTo, HeldAt}
use Rattle.fit_tables.proofs.Lowest.{lowest_off}

-- ---- the rows of the numbers of w, gathered in r with those so far; those of `left` are still to come

pub record Picking (R : ℕ → ℕ) (w so_far left r : ℕ) : Type 0 where
  pub kept : (e : ℕ) → Holds left e → Holds w e
  pub old : (p : ℕ) → Holds so_far p → Holds r p
  pub so : (p : ℕ) → Holds r p → AndPicked so_far R w p
  pub has : (e p : ℕ) → Holds w e → Holds (R e) p → Holds left e ⊎ Holds r p

module _ (R : ℕ → ℕ) (w so_far : ℕ) where
  pub picking_none : Picking R w so_far w so_far
  picking_none = record { kept = λ e h. h; old = λ p h. h; so = λ p h. inl h; has = λ e p h _. inl h }

  pub picking_more : {left r n t : ℕ} → Least left t → n ≡ bit_or r (R t) → Picking R w so_far left r → Picking R w so_far (bit_and left (left - 1)) n
  picking_more {left} {r} {n} {t} l e g = record {
    kept = λ e h. g.kept e (off.so e h).0;
    old = λ p h. added.has p (inl (g.old p h));
    so = λ p h. ⊎_elim (g.so p) (λ i. inr (record { number = t; held = g.kept t l.held; there = i })) (added.so p h);
    has = λ e p h i. ⊎_elim
        (λ z. inr (added.has p (inr (subst (λ (x : ℕ). Holds (R x) p) z i))))
        (λ z. ⊎_elim (λ k. inl (off.has e (k, z))) (λ k. inr (added.has p (inl k))) (g.has e p h i))
        (eq_or_ne e t);
  }
    where
      off : Exactly (bit_and left (left - 1)) (λ e. Holds left e × (e ≡ t → ⊥))
      off = lowest_off left l

      added : Exactly n (λ p. Holds r p ⊎ Holds (R t) p)
      added = either_exactly r (R t) e

  pub picking_done : {left r : ℕ} → left ≡ 0 → Picking R w so_far left r → Exactly r (AndPicked so_far R w)
  unfolding Empty
  picking_done z g = record {
    so = g.so;
    has = λ p. ⊎_elim (g.old p) (λ k. ⊎_elim
        (λ h. absurd (none_in_zero _ (subst (λ (x : ℕ). Holds x k.number) z h)))
        (λ h. h)
        (g.has k.number p k.held k.there));
  }

-- where there were none so far
pub picked_alone : {R : ℕ → ℕ} {w so_far n : ℕ} → so_far ≡ 0 → Exactly n (AndPicked so_far R w) → Exactly n (Picked R w)
unfolding Empty
picked_alone z = exactly_as (λ p. ⊎_elim (λ h. absurd (none_in_zero p (subst (λ (x : ℕ). Holds x p) z h))) (λ k. k)) (λ p k. inr k)

-- the characters of some words from number k on are picked word by word, however many
module _ (R : ℕ → ℕ) (k w : ℕ) (ws : List ℕ) (f : w < 2 ^ 64) where
  from_words : (p : ℕ) → Picked (λ e. R (k + e)) w p ⊎ Picked (λ e. R (k + 64 + e)) (base_of ws) p → Picked (λ e. R (k + e)) (base_of (w ∷ ws)) p
  unfolding Holds
  from_words p = ⊎_elim
      (λ h. let e = h.number in record { number = e; held = first_word w e ws (held_under 64 f e h.held) ∙ h.held; there = h.there })
      (λ h. let e = h.number in
      let at : k + 64 + e ≡ k + (64 + e) = omega arith in
      record { number = 64 + e; held = next_words w e ws f ∙ h.held; there = subst (λ (x : ℕ). Holds (R x) p) at h.there })

  to_words : (p : ℕ) → Picked (λ e. R (k + e)) (base_of (w ∷ ws)) p → Picked (λ e. R (k + e)) w p ⊎ Picked (λ e. R (k + 64 + e)) (base_of ws) p
  unfolding Holds
  to_words p h =
      let e = h.number in
      ⊎_elim
      (λ l. inl (record { number = e; held = sym (first_word w e ws l) ∙ h.held; there = h.there }))
      (λ l. let back : e ≡ 64 + (e - 64) = omega arith in
      let at : k + e ≡ k + 64 + (e - 64) = omega arith in
      inr (record {
        number = e - 64;
        held = sym (next_words w (e - 64) ws f) ∙ subst (Holds (base_of (w ∷ ws))) back h.held;
        there = subst (λ (x : ℕ). Holds (R x) p) at h.there;
      }))
      (lt_or_le e 64)

  pub picked_more : {x y : ℕ} → Exactly x (AndPicked y (λ e. R (k + e)) w) → Exactly y (Picked (λ e. R (k + 64 + e)) (base_of ws))
      → Exactly x (Picked (λ e. R (k + e)) (base_of (w ∷ ws)))
  picked_more a b = exactly_as
      (λ p h. from_words p (⊎_elim (λ i. inr (b.so p i)) (λ i. inl i) h))
      (λ p h. ⊎_elim (λ i. inr i) (λ i. inl (b.has p i)) (to_words p h))
      a

-- of no words none
pub picked_none : {R : ℕ → ℕ} {n : ℕ} → n ≡ 0 → Exactly n (Picked R (base_of []))
unfolding base_of Empty
picked_none z = none_exactly z (λ p h. none_in_zero h.number h.held)

-- from number 0 on
pub picked_all : {R : ℕ → ℕ} {w n : ℕ} → Exactly n (Picked (λ e. R (0 + e)) w) → Exactly n (Picked R w)
picked_all {R} = exactly_as
    (λ p h. record { number = h.number; held = h.held; there = subst (λ (x : ℕ). Holds (R x) p) (zero-add h.number) h.there })
    (λ p h. record { number = h.number; held = h.held; there = subst (λ (x : ℕ). Holds (R x) p) (sym (zero-add h.number)) h.there })
  where
    zero-add : (e : ℕ) → 0 + e ≡ e
    zero-add e = omega arith

-- ---- the table of the first k places

pub placed_none : (t table : List ℕ) → table ≡ replicate (length table) 0 → Placed t 0 table
placed_none t table e = record {
  small = λ i. rw (blank i) (lit< tt);
  words = λ i. none_exactly (blank i) (λ p h. let z = h.1.0 in omega arith);
}
  where
    blank : (i : ℕ) → get_or table i 0 ≡ 0
    blank i = ⊎_elim
        (λ l. ap (λ (m : List ℕ). get_or m i 0) e ∙ get_or-replicate (length table) i 0 0 l)
        (λ l. get_or-eq_default table 0 l)
        (lt_or_le i (length table))

module _ (t : List ℕ) (k : ℕ) (table : List ℕ) (g : Placed t k table) where
  -- a word that is not that of place k
  kept_word : (w i : ℕ) → w ≡ get_or table i 0 → (i / codes ≡ k / 64 → i % codes ≡ get_or t k 0 → ⊥) → Exactly w (PlacedAt t (k + 1) i)
  kept_word w i z n = exactly_as (λ e h. (h.0, (let y = h.1.0 in omega arith, h.1.1))) (λ e h. (h.0, (before e h, h.1.1))) (exactly_at z (g.words i))
    where
      before : (e : ℕ) → PlacedAt t (k + 1) i e → i / codes * 64 + e < k
      before e h =
          let low = h.0 in
          let most = h.1.0 in
          ⊎_elim
          (λ c. c)
          (λ c. let there : i / codes * 64 + e ≡ k = omega arith in absurd (n (omega arith) (sym h.1.1 ∙ ap (λ (x : ℕ). get_or t x 0) there)))
          (lt_or_le (i / codes * 64 + e) k)

  -- a character gets the bit b of place k in its row
  module _ (c at b : ℕ) (low : c < codes) (within : at < length table) (same : get_or t k 0 ≡ c) (place : at ≡ k / 64 * codes + c) (bit : b ≡ 2 ^ (k % 64)) where
    one : Exactly b (λ e. e ≡ k % 64)
    one = exactly_at bit (one_exactly (k % 64))

    here : Exactly (bit_or (get_or table at 0) b) (PlacedAt t (k + 1) at)
    here = exactly_as so has (either_exactly (get_or table at 0) b refl)
      where
        row : at % codes ≡ c
        row = omega arith

        so : (e : ℕ) → Holds (get_or table at 0) e ⊎ Holds b e → PlacedAt t (k + 1) at e
        so e = ⊎_elim
            (λ h. let w = (g.words at).so e h in (w.0, (let z = w.1.0 in omega arith, w.1.1)))
            (λ h. let z = one.so e h in
            let there : at / codes * 64 + e ≡ k = omega arith in
            (omega arith, (omega arith, ap (λ (x : ℕ). get_or t x 0) there ∙ same ∙ sym row)))

        has : (e : ℕ) → PlacedAt t (k + 1) at e → Holds (get_or table at 0) e ⊎ Holds b e
        has e h =
            let l = h.0 in
            let y = h.1.0 in
            ⊎_elim
            (λ z. inr (one.has e (omega arith)))
            (λ z. inl ((g.words at).has e (h.0, (omega arith, h.1.1))))
            (eq_or_ne (at / codes * 64 + e) k)

    pub placed_more : Placed t (k + 1) (set table at (bit_or (get_or table at 0) b))
    placed_more = record {
      small = λ i. ⊎_elim
          (λ z. subst (λ (x : ℕ). x < 2 ^ 64) (sym (same_word i z)) (or_lt 64 (get_or table at 0) b (g.small at) bit_small))
          (λ z. subst (λ (x : ℕ). x < 2 ^ 64) (sym (get_or-set_other table at i _ 0 z)) (g.small i))
          (eq_or_ne i at);
      words = λ i. ⊎_elim
          (λ z. exactly_at (same_word i z) (subst (λ (x : ℕ). Exactly (bit_or (get_or table at 0) b) (PlacedAt t (k + 1) x)) (sym z) here))
          (λ z. kept_word _ i (get_or-set_other table at i _ 0 z) (λ x y. z (omega arith)))
          (eq_or_ne i at);
    }
      where
        bit_small : b < 2 ^ 64
        bit_small = rw bit (pow-lt (let y : k % 64 < 64 = omega arith in y))

        same_word : (i : ℕ) → i ≡ at → get_or (set table at (bit_or (get_or table at 0) b)) i 0 ≡ bit_or (get_or table at 0) b
        same_word i z = ap (λ (x : ℕ). get_or (set table at (bit_or (get_or table at 0) b)) x 0) z ∙ get_or-set_same table at _ 0 within

-- the words of the table as rows
pub placed_rows : (t table : List ℕ) → length t ≤ 256 → Placed t (length t) table → PlacesOf t table
unfolding set_of
placed_rows t table few g c low =
    four_exactly row (record { a = g.small _; b = g.small _; c = g.small _; d = g.small _ })
    (λ e h. let z = h.0 in omega arith)
    (word 0 c (omega arith) (omega arith)) (word 64 (codes + c) (omega arith) (omega arith))
    (word 128 (2 * codes + c) (omega arith) (omega arith)) (word 192 (3 * codes + c) (omega arith) (omega arith))
  where
    row : Set
    row = record { a = get_or table c 0; b = get_or table (codes + c) 0; c = get_or table (2 * codes + c) 0; d = get_or table (3 * codes + c) 0 }

    word : (j i : ℕ) → i / codes * 64 ≡ j → i % codes ≡ c → Exactly (get_or table i 0) (λ e. (e < 64) × ((j + e < length t) × (get_or t (j + e) 0 ≡ c)))
    word j i p q =
        subst₂ (λ (x y : ℕ). Exactly (get_or table i 0) (λ e. (e < 64) × ((x + e < length t) × (get_or t (x + e) 0 ≡ y)))) p q (g.words i)

-- a row of one word
pub short_row : (table : List ℕ) (c : ℕ) → length table ≤ codes → base_of (get_or table c 0 ∷ (0 ∷ (0 ∷ (0 ∷ [])))) ≡ row_of table c
unfolding base_of
short_row table c short = λ m. base_of (get_or table c 0 ∷ (past codes (omega arith) m ∷ (past (2 * codes) (omega arith) m ∷ (past (3 * codes) (omega arith) m ∷ []))))
  where
    past : (j : ℕ) → codes ≤ j → 0 ≡ get_or table (j + c) 0
    past j h = sym (get_or-eq_default table 0 (let z : length table ≤ j + c = omega arith in z))

-- ---- one character more is seen

module _ (t : List ℕ) (k seen : ℕ) (s : SeenTo t k seen) where
  pub seen_more : {one more : ℕ} → Exactly one (λ e. e ≡ get_or t k 0) → more ≡ bit_or seen one → SeenTo t (k + 1) more
  seen_more {one} x e p l =
      let added = either_exactly seen one e in
      ⊎_elim
      (λ d. added.has _ (inl (s p d)))
      (λ d. added.has _ (inr (x.has _ (ap (λ (q : ℕ). get_or t q 0) (let z : p ≡ k = omega arith in z)))))
      (lt_or_le p k)

-- ---- the places whose character a base holds

pub held_places : (t table : List ℕ) (base seen : ℕ) {chars held : ℕ} → PlacesOf t table → SeenTo t (length t) seen → ((c : ℕ) → Holds base c → c < codes)
    → chars ≡ bit_and base seen → Exactly held (Picked (row_of table) chars) → HeldAt base t held
held_places t table base seen {chars} m s low e = exactly_as so has
  where
    shared : Exactly chars (λ c. Holds base c × Holds seen c)
    shared = both_exactly base seen e

    so : (p : ℕ) → Picked (row_of table) chars p → (p < length t) × Holds base (get_or t p 0)
    so p k =
        let h = (shared.so k.number k.held).0 in
        let at = (m k.number (low k.number h)).so p k.there in
        (at.0, subst (Holds base) (sym at.1) h)

    has : (p : ℕ) → (p < length t) × Holds base (get_or t p 0) → Picked (row_of table) chars p
    has p h =
        let c = get_or t p 0 in
        let l = low c h.1 in
        record { number = c; held = shared.has c (h.1, s p h.0); there = (m c l).has p (h.0, refl) }
