-- The laws of a set in words, one word more at a time, whatever their number. Assumes nothing.
use mathlib.Core.Path.{◌≡◌, refl, sym, ap, ap₂, ◌∙◌, subst}
use mathlib.Core.List.{List, [], ◌∷◌}
use mathlib.Core.Logic.{⊎_elim}
use Prim.Native.Nat.{ℕ, ◌+◌, ◌-◌, ◌*◌, ◌/◌, ◌%◌, ◌^◌, ◌≤◌, ◌<◌}
use native.Mathlib.Omega.{arith}
use lib.Bits.{bit_or, or_shifted, or_shifted_r, block_half, block_odd}
use lib.Count.{count_trailing_zeros}
use lib.Pow.{mod-pow-add, high, low}
use Rattle.bases.specs.Base.{base_of, Holds, Empty, Least, Greatest}
use Rattle.bases.proofs.Laws.{one_word, first_word, next_words, empty_zero, none_in_zero, least_first, least_next}
use Rattle.plain.proofs.Plain.{lt_or_le}
use Rattle.sets.specs.Set.{Exactly}

-- ---- where a number stands

pub no_word : base_of [] ≡ 0
unfolding base_of
no_word = refl

-- a number from 64 on is the other words'
later_word : (w q : ℕ) (ws : List ℕ) → w < 2 ^ 64 → 64 ≤ q → base_of (w ∷ ws) / 2 ^ q % 2 ≡ base_of ws / 2 ^ (q - 64) % 2
later_word w q ws h l =
    let back : q ≡ 64 + (q - 64) = omega arith in
    ap (λ (x : ℕ). base_of (w ∷ ws) / 2 ^ x % 2) back ∙ next_words w (q - 64) ws h

pub exactly_more : {P : ℕ → Type 0} (w : ℕ) (ws : List ℕ) → w < 2 ^ 64
    → Exactly w (λ e. (e < 64) × P e) → Exactly (base_of ws) (λ e. P (64 + e)) → Exactly (base_of (w ∷ ws)) P
unfolding Holds
exactly_more {P} w ws h x rest = record {
  so = λ e b. ⊎_elim
      (λ small. (x.so e (sym (first_word w e ws small) ∙ b)).1)
      (λ large. subst P (back e large) (rest.so (e - 64) (sym (later_word w e ws h large) ∙ b)))
      (lt_or_le e 64);
  has = λ e p. ⊎_elim
      (λ small. first_word w e ws small ∙ x.has e (small, p))
      (λ large. later_word w e ws h large ∙ rest.has (e - 64) (subst P (sym (back e large)) p))
      (lt_or_le e 64);
}
  where
    back : (e : ℕ) → 64 ≤ e → 64 + (e - 64) ≡ e
    back e l = omega arith

-- ---- an operation that goes bit by bit: the parts of two numbers below and above a place go by themselves

abbrev pub Bitwise : (ℕ → ℕ → ℕ) → Type 0
Bitwise op = (k a b r s : ℕ) → r < 2 ^ k → s < 2 ^ k → op (a * 2 ^ k + r) (b * 2 ^ k + s) ≡ op a b * 2 ^ k + op r s

pub each_more : (op : ℕ → ℕ → ℕ) → Bitwise op → (w x : ℕ) (ws xs vs : List ℕ) → w < 2 ^ 64 → x < 2 ^ 64
    → base_of vs ≡ op (base_of ws) (base_of xs) → base_of (op w x ∷ vs) ≡ op (base_of (w ∷ ws)) (base_of (x ∷ xs))
unfolding base_of
each_more op bits w x ws xs vs hw hx e = ap (λ (z : ℕ). z * 2 ^ 64 + op w x) e ∙ sym (bits 64 (base_of ws) (base_of xs) w x hw hx)

-- ---- one down: each word takes the lowest bit of the next

down_word : (w x : ℕ) → w < 2 ^ 64 → bit_or (w / 2 ^ 1) ((x * 2 ^ 63) % 2 ^ 64) ≡ x % 2 * 2 ^ 63 + w / 2
down_word w x h =
    let e : (x * 2 ^ 63) % 2 ^ 64 ≡ x % 2 * 2 ^ 63 = omega arith in
    let l : w / 2 ^ 1 < 2 ^ 63 = omega arith in
    ap (bit_or (w / 2 ^ 1)) e ∙ or_shifted_r (x % 2) 63 (w / 2 ^ 1) l

pub down_more : (w x : ℕ) (ws vs : List ℕ) → w < 2 ^ 64 → base_of vs ≡ base_of (x ∷ ws) / 2
    → base_of (bit_or (w / 2 ^ 1) ((x * 2 ^ 63) % 2 ^ 64) ∷ vs) ≡ base_of (w ∷ (x ∷ ws)) / 2
unfolding base_of
down_more w x ws vs h e =
    ap₂ (λ (m n : ℕ). m * 2 ^ 64 + n) e (down_word w x h ∙ ap (λ (n : ℕ). n * 2 ^ 63 + w / 2) (sym (block_odd (base_of ws) 63 x)))
    ∙ halves (base_of ws * 2 ^ 64 + x) (w / 2) ∙ sym (block_half (base_of ws * 2 ^ 64 + x) 63 w)
  where
    halves : (m y : ℕ) → m / 2 * 2 ^ 64 + (m % 2 * 2 ^ 63 + y) ≡ m * 2 ^ 63 + y
    halves m y = omega arith

pub down_last : (w : ℕ) → base_of (w / 2 ^ 1 ∷ []) ≡ base_of (w ∷ []) / 2
down_last w = one_word (w / 2 ^ 1) ∙ sym (ap (λ (z : ℕ). z / 2) (one_word w))

-- ---- one up: each word takes the highest bit t of the word before; the last word's is lost

up_word : (w t : ℕ) → t < 2 → (bit_or ((w * 2 ^ 1) % 2 ^ 64) t ≡ (w * 2) % 2 ^ 64 + t) × ((w * 2) % 2 ^ 64 + t < 2 ^ 64)
up_word w t l =
    let e : (w * 2 ^ 1) % 2 ^ 64 ≡ (w % 2 ^ 63) * 2 ^ 1 = omega arith in
    let g : (w % 2 ^ 63) * 2 ^ 1 + t ≡ (w * 2) % 2 ^ 64 + t = omega arith in
    (ap (λ (z : ℕ). bit_or z t) e ∙ or_shifted (w % 2 ^ 63) 1 t l ∙ g, omega arith)

pub up_more : (w t k : ℕ) (ws vs : List ℕ) → t < 2 → base_of vs ≡ (base_of ws * 2 + w / 2 ^ 63) % 2 ^ k
    → base_of (bit_or ((w * 2 ^ 1) % 2 ^ 64) t ∷ vs) ≡ (base_of (w ∷ ws) * 2 + t) % 2 ^ (k + 64)
unfolding base_of
up_more w t k ws vs l e =
    let m : ℕ = base_of ws * 2 + w / 2 ^ 63 in
    let v = up_word w t l in
    let parts = ap₂ (λ (x y : ℕ). x % 2 ^ k * 2 ^ 64 + y) (high m 64 v.1) (low m 64 v.1) in
    ap₂ (λ (x y : ℕ). x * 2 ^ 64 + y) e v.0 ∙ sym (ap (λ (x : ℕ). x % 2 ^ (k + 64)) (twice (base_of ws)) ∙ mod-pow-add _ k 64 ∙ parts)
  where
    twice : (m : ℕ) → (m * 2 ^ 64 + w) * 2 + t ≡ (m * 2 + w / 2 ^ 63) * 2 ^ 64 + ((w * 2) % 2 ^ 64 + t)
    twice m = omega arith

-- ---- empty, least and greatest

pub empty_more : (w : ℕ) (ws : List ℕ) → w ≡ 0 → Empty (base_of ws) → Empty (base_of (w ∷ ws))
unfolding base_of
empty_more w ws z e = rw (z, empty_zero _ e) none_in_zero

pub more_empty : (w : ℕ) (ws : List ℕ) → Empty (base_of (w ∷ ws)) → (w ≡ 0) × Empty (base_of ws)
unfolding base_of
more_empty w ws e = let z = empty_zero _ e in (omega arith, subst Empty (let y : 0 ≡ base_of ws = omega arith in y) none_in_zero)

pub lowest_bit : (w : ℕ) → w < 2 ^ 64 → (w ≡ 0 → ⊥) → Least w (count_trailing_zeros 64 w) × (count_trailing_zeros 64 w < 64)
lowest_bit w h n = rw one_word at (least_first w [] h n)

-- the least of the first word
pub least_here : {t : ℕ} (w : ℕ) (ws : List ℕ) → t < 64 → Least w t → Least (base_of (w ∷ ws)) t
unfolding Holds
least_here {t} w ws l h = record {
  held = first_word w t ws l ∙ h.held;
  least = λ e b. ⊎_elim (λ small. h.least e (sym (first_word w e ws small) ∙ b)) (λ large. omega arith) (lt_or_le e 64);
}

pub least_later : {t : ℕ} (w : ℕ) (ws : List ℕ) → w ≡ 0 → Least (base_of ws) t → Least (base_of (w ∷ ws)) (64 + t)
least_later w ws z h = rw z (least_next _ ws h)

-- the greatest of the first word, where no other holds anything
pub greatest_here : {t : ℕ} (w : ℕ) (ws : List ℕ) → Empty (base_of ws) → Greatest w t → Greatest (base_of (w ∷ ws)) t
unfolding base_of
greatest_here {t} w ws e h = rw (empty_zero _ e) (subst (λ (x : ℕ). Greatest x t) (let z : w ≡ 0 * 2 ^ 64 + w = omega arith in z) h)
