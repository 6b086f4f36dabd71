-- The laws of a base: where its words' bits stand, when it is empty, and its least and greatest character. Assumes
-- nothing.
use mathlib.Core.Path.{◌≡◌, refl, sym, ap, ◌∙◌, subst}
use mathlib.Core.List.{List, [], ◌∷◌}
use mathlib.Core.Logic.{◌⊎◌, inl, inr, ⊎_elim}
use Prim.Native.Nat.{ℕ, zero, suc, ◌+◌, ◌-◌, ◌*◌, ◌/◌, ◌%◌, ◌^◌, ◌≤◌, ◌<◌}
use native.Mathlib.Nat.{zero-div, mod-lt, div-eq_of_lt, div-one, div-eq_of_lt-le, lt_of_lt_of_le, one-mul, pow-succ'}
use native.Mathlib.Numerals.{add-one}
use native.Mathlib.Omega.{arith}
use lib.Arith.{bin_ind}
use lib.Bits.{block_half, block_odd}
use lib.Count.{count_trailing_zeros, under, count_leading_zeros, leading_top}
use lib.Dec.{lit<}
use lib.Pow.{pow_mono, shr-shr, shr_lt, high}
use Rattle.bases.specs.Base.{base_of, Holds, Empty, Least, Greatest, codes, least_of, greatest_of}
use Rattle.plain.proofs.Plain.{lt_or_le, eq_or_ne}

-- bit c + 1 of n is bit c of n / 2
pub halved : (n c : ℕ) → n / 2 ^ suc c % 2 ≡ n / 2 / 2 ^ c % 2
halved n c = ap (λ (x : ℕ). x % 2) (ap (λ (x : ℕ). n / 2 ^ x) (sym (add-one c) ∙ omega arith) ∙ sym (shr-shr n 1 c))

-- a bit below k of a * 2 ^ k + r is r's
low_bit : (c k a r : ℕ) → c < k → (a * 2 ^ k + r) / 2 ^ c % 2 ≡ r / 2 ^ c % 2
low_bit zero zero a r h = absurd (omega arith)
low_bit zero (suc k) a r h = ap (λ (x : ℕ). x % 2) (div-one (a * 2 ^ suc k + r)) ∙ block_odd a k r ∙ ap (λ (x : ℕ). x % 2) (sym (div-one r))
low_bit (suc c) zero a r h = absurd (omega arith)
low_bit (suc c) (suc k) a r h =
    halved (a * 2 ^ suc k + r) c ∙ ap (λ (x : ℕ). x / 2 ^ c % 2) (block_half a k r) ∙ low_bit c k a (r / 2) (omega arith) ∙ sym (halved r c)

not_one : ◌≡◌ {A = ℕ} 0 1 → ⊥
not_one h = omega arith

-- ---- what the words of a base hold

pub one_word : (w : ℕ) → base_of (w ∷ []) ≡ w
unfolding base_of
one_word w = omega arith

-- a character below 64 is the first word's
pub first_word : (w c : ℕ) (ws : List ℕ) → c < 64 → base_of (w ∷ ws) / 2 ^ c % 2 ≡ w / 2 ^ c % 2
unfolding base_of
first_word w c ws h = low_bit c 64 (base_of ws) w h

-- any other is the other words'
pub next_words : (w c : ℕ) (ws : List ℕ) → w < 2 ^ 64 → base_of (w ∷ ws) / 2 ^ (64 + c) % 2 ≡ base_of ws / 2 ^ c % 2
unfolding base_of
next_words w c ws h = ap (λ (x : ℕ). x % 2) (sym (shr-shr (base_of (w ∷ ws)) 64 c) ∙ ap (λ (x : ℕ). x / 2 ^ c) (high (base_of ws) 64 h))

-- ---- an empty base is the number 0

pub none_in_zero : Empty 0
unfolding Empty Holds
none_in_zero c h = not_one (sym (ap (λ (x : ℕ). x % 2) (zero-div (2 ^ c))) ∙ h)

pub empty_zero : (b : ℕ) → Empty b → b ≡ 0
unfolding Empty Holds
empty_zero = bin_ind (λ (b : ℕ). Empty b → b ≡ 0) (λ _. refl) step
  where
    step : (n : ℕ) → (Empty (n / 2) → n / 2 ≡ 0) → Empty n → n ≡ 0
    step n ih e =
        let half : n / 2 ≡ 0 = ih (λ c h. e (suc c) (halved n c ∙ h)) in
        let even : n % 2 ≡ 1 → ⊥ = λ h. e 0 (ap (λ (x : ℕ). x % 2) (div-one n) ∙ h) in
        omega (arith, mod-lt n {m = 2} (lit< tt))

-- ---- the lowest set bit

pub below_two : (n : ℕ) → (n % 2 ≡ 0) ⊎ (n % 2 ≡ 1)
below_two n = ⊎_elim (λ h. inl h) (λ h. inr (omega (arith, mod-lt n {m = 2} (lit< tt)))) (eq_or_ne (n % 2) 0)

-- t is the place of the lowest set bit of n
record Lowest (n t : ℕ) : Type 0 where
  set : n / 2 ^ t % 2 ≡ 1
  clear : (j : ℕ) → n / 2 ^ j % 2 ≡ 1 → t ≤ j

lowest_odd : (n : ℕ) → n % 2 ≡ 1 → Lowest n 0
lowest_odd n h = record { set = ap (λ (x : ℕ). x % 2) (div-one n) ∙ h; clear = λ j _. omega arith }

lowest_even : (n t : ℕ) → n % 2 ≡ 0 → Lowest (n / 2) t → Lowest n (suc t)
lowest_even n t h l = record { set = halved n t ∙ l.set; clear = clear }
  where
    clear : (j : ℕ) → n / 2 ^ j % 2 ≡ 1 → suc t ≤ j
    clear zero e = absurd (not_one (sym (ap (λ (x : ℕ). x % 2) (div-one n) ∙ h) ∙ e))
    clear (suc j) e = let h = l.clear j (sym (halved n j) ∙ e) in omega arith

lowest_step : (k n : ℕ) → n < 2 ^ suc k → (n ≡ 0 → ⊥) → (n / 2 < 2 ^ k → (n / 2 ≡ 0 → ⊥) → Lowest (n / 2) (count_trailing_zeros k (n / 2)) × (count_trailing_zeros k (n / 2) < k))
    → Lowest n (under (n % 2) (count_trailing_zeros k (n / 2))) × (under (n % 2) (count_trailing_zeros k (n / 2)) < suc k)
lowest_step k n h nz ih = ⊎_elim even odd (below_two n)
  where
    t : ℕ
    t = count_trailing_zeros k (n / 2)

    odd : n % 2 ≡ 1 → Lowest n (under (n % 2) t) × (under (n % 2) t < suc k)
    odd e = rw e (lowest_odd n e, omega arith)

    even : n % 2 ≡ 0 → Lowest n (under (n % 2) t) × (under (n % 2) t < suc k)
    even e =
        let r = ih (shr_lt k 1 (rw add-one h)) (λ z. nz (omega arith)) in
        rw e (lowest_even n t e r.0, omega arith)

lowest : (k n : ℕ) → n < 2 ^ k → (n ≡ 0 → ⊥) → Lowest n (count_trailing_zeros k n) × (count_trailing_zeros k n < k)
unfolding count_trailing_zeros
lowest zero n h nz = absurd (nz (omega arith))
lowest (suc k) n h nz = lowest_step k n h nz (lowest k (n / 2))

-- ---- the least character

-- of a base whose first word is not 0
pub least_first : (w : ℕ) (ws : List ℕ) → w < 2 ^ 64 → (w ≡ 0 → ⊥) → Least (base_of (w ∷ ws)) (count_trailing_zeros 64 w) × (count_trailing_zeros 64 w < 64)
unfolding Holds
least_first w ws h nz =
    let l = lowest 64 w h nz in
    let at : (d : ℕ) → base_of (w ∷ ws) / 2 ^ d % 2 ≡ 1 → count_trailing_zeros 64 w ≤ d
    = λ d e. ⊎_elim (λ small. l.0.clear d (sym (first_word w d ws small) ∙ e)) (λ large. omega arith) (lt_or_le d 64) in
    (record { held = first_word w (count_trailing_zeros 64 w) ws l.1 ∙ l.0.set; least = at }, l.1)

-- of a base whose first word is 0
pub least_next : (t : ℕ) (ws : List ℕ) → Least (base_of ws) t → Least (base_of (0 ∷ ws)) (64 + t)
unfolding Holds
least_next t ws l = record { held = next_words 0 t ws (lit< tt) ∙ l.held; least = at }
  where
    at : (d : ℕ) → base_of (0 ∷ ws) / 2 ^ d % 2 ≡ 1 → 64 + t ≤ d
    at d e = ⊎_elim
        (λ small. absurd (not_one (sym (ap (λ (x : ℕ). x % 2) (zero-div (2 ^ d))) ∙ sym (first_word 0 d ws small) ∙ e)))
        (λ large. let back : 64 + (d - 64) ≡ d = omega arith in
        let h = l.least (d - 64) (sym (next_words 0 (d - 64) ws (lit< tt)) ∙ ap (λ (x : ℕ). base_of (0 ∷ ws) / 2 ^ x % 2) back ∙ e) in omega arith)
        (lt_or_le d 64)

-- ---- the greatest character

highest_set : (j n : ℕ) → 2 ^ j ≤ n → n < 2 ^ suc j → n / 2 ^ j % 2 ≡ 1
highest_set j n lo hi =
    let one : n / 2 ^ j ≡ 1 = div-eq_of_lt-le (2 ^ j) (rw one-mul lo) (let h : n < 2 * 2 ^ j = rw (pow-succ' 2 j) at hi in h) in
    ap (λ (x : ℕ). x % 2) one

none_above : (j n : ℕ) → n < 2 ^ suc j → (d : ℕ) → n / 2 ^ d % 2 ≡ 1 → d ≤ j
none_above j n h d e = ⊎_elim
    (λ small. omega arith)
    (λ large. absurd (not_one (sym (ap (λ (x : ℕ). x % 2) (div-eq_of_lt (lt_of_lt_of_le h (pow_mono large)))) ∙ e)))
    (lt_or_le d (suc j))

-- of a single word that is not 0
pub greatest_word : (w : ℕ) → w < 2 ^ 64 → (w ≡ 0 → ⊥) → Greatest w (63 - count_leading_zeros 64 w) × (count_leading_zeros 64 w < 64)
unfolding Holds
greatest_word w h nz =
    let t = leading_top 64 w (omega arith) h in
    let place : t.0 ≡ 63 - count_leading_zeros 64 w = let e = t.1 in omega arith in
    let g : Greatest w t.0 = record { held = highest_set t.0 w t.2 t.3; greatest = none_above t.0 w t.3 } in
    (rw place at g, let e = t.1 in omega arith)

-- of a base whose other words hold something
pub greatest_next : (w t : ℕ) (ws : List ℕ) → w < 2 ^ 64 → Greatest (base_of ws) t → Greatest (base_of (w ∷ ws)) (64 + t)
unfolding Holds
greatest_next w t ws h g = record { held = next_words w t ws h ∙ g.held; greatest = at }
  where
    at : (d : ℕ) → base_of (w ∷ ws) / 2 ^ d % 2 ≡ 1 → d ≤ 64 + t
    at d e = ⊎_elim
        (λ small. omega arith)
        (λ large. let back : 64 + (d - 64) ≡ d = omega arith in
        let h = g.greatest (d - 64) (sym (next_words w (d - 64) ws h) ∙ ap (λ (x : ℕ). base_of (w ∷ ws) / 2 ^ x % 2) back ∙ e) in omega arith)
        (lt_or_le d 64)

-- ---- the least and the greatest character, as numbers

pub least_one : {b c d : ℕ} → Least b c → Least b d → c ≡ d
least_one l m = let h = l.least _ m.held in let g = m.least _ l.held in omega arith

pub greatest_one : {b c d : ℕ} → Greatest b c → Greatest b d → c ≡ d
greatest_one l m = let h = l.greatest _ m.held in let g = m.greatest _ l.held in omega arith

pub least_of_lem : (b : ℕ) → b < 2 ^ codes → (Empty b → ⊥) → Least b (least_of b)
unfolding least_of Holds
least_of_lem b h n =
    let l = (lowest codes b h (λ z. n (subst Empty (sym z) none_in_zero))).0 in
    record { held = l.set; least = l.clear }

pub greatest_of_lem : (b : ℕ) → b < 2 ^ codes → (Empty b → ⊥) → Greatest b (greatest_of b)
unfolding greatest_of Holds
greatest_of_lem b h n =
    let nz : b ≡ 0 → ⊥ = λ z. n (subst Empty (sym z) none_in_zero) in
    let t = leading_top codes b (omega (arith, nz)) h in
    let place : t.0 ≡ codes - 1 - count_leading_zeros codes b = let e = t.1 in omega arith in
    let g : Greatest b t.0 = record { held = highest_set t.0 b t.2 t.3; greatest = none_above t.0 b t.3 } in
    rw place at g
