-- Bases as sets: equal by their characters; what two share and what either holds, and whether they meet. Assumes
-- nothing.
use mathlib.Core.Path.{◌≡◌, refl, sym, ap, ap₂, ◌∙◌}
use mathlib.Core.Logic.{◌⊎◌, inl, inr, ⊎_elim}
use Prim.Native.Nat.{ℕ, suc, ◌/◌, ◌%◌, ◌^◌, ◌≤◌, ◌<◌}
use native.Mathlib.Nat.{div-one, lt_of_le_of_lt}
use native.Mathlib.Omega.{arith}
use lib.Arith.{bin_ind}
use lib.Bits.{bit_and, bit_or, and_shr, and_mod, or_shr, or_mod, and_zero_l, or_zero_l, and_le_l}
use Rattle.bases.specs.Base.{Holds, Empty, Meets}
use Rattle.bases.proofs.Laws.{halved, below_two, empty_zero, none_in_zero}

-- ---- two bases that hold the same characters are the same number

pub same_base : (a b : ℕ) → ((c : ℕ) → Holds a c → Holds b c) → ((c : ℕ) → Holds b c → Holds a c) → a ≡ b
unfolding Holds
same_base = bin_ind (λ (a : ℕ). (b : ℕ) → ((c : ℕ) → Holds a c → Holds b c) → ((c : ℕ) → Holds b c → Holds a c) → a ≡ b) at_zero step
  where
    at_zero : (b : ℕ) → ((c : ℕ) → Holds 0 c → Holds b c) → ((c : ℕ) → Holds b c → Holds 0 c) → 0 ≡ b
    at_zero b f g = sym (empty_zero b (unfold Empty Holds in (λ c h. none_in_zero c (g c h))))

    low : (n : ℕ) → n / 2 ^ 0 % 2 ≡ n % 2
    low n = ap (λ (x : ℕ). x % 2) (div-one n)

    step : (a : ℕ) → ((b : ℕ) → ((c : ℕ) → Holds (a / 2) c → Holds b c) → ((c : ℕ) → Holds b c → Holds (a / 2) c) → a / 2 ≡ b)
        → (b : ℕ) → ((c : ℕ) → Holds a c → Holds b c) → ((c : ℕ) → Holds b c → Holds a c) → a ≡ b
    step a ih b f g =
        let halves : a / 2 ≡ b / 2 = ih (b / 2) (λ c h. sym (halved b c) ∙ f (suc c) (halved a c ∙ h)) (λ c h. sym (halved a c) ∙ g (suc c) (halved b c ∙ h)) in
        let to : a % 2 ≡ 1 → b % 2 ≡ 1 = λ h. sym (low b) ∙ f 0 (low a ∙ h) in
        let from : b % 2 ≡ 1 → a % 2 ≡ 1 = λ h. sym (low a) ∙ g 0 (low b ∙ h) in
        let bits : a % 2 ≡ b % 2 = ⊎_elim
        (λ za. ⊎_elim (λ zb. za ∙ sym zb) (λ ob. from ob ∙ sym ob) (below_two b))
        (λ oa. oa ∙ sym (to oa)) (below_two a) in
        omega arith

-- a base whose characters another has is at most that number
pub within_most : (a b : ℕ) → ((c : ℕ) → Holds a c → Holds b c) → a ≤ b
unfolding Holds
within_most = bin_ind (λ (a : ℕ). (b : ℕ) → ((c : ℕ) → Holds a c → Holds b c) → a ≤ b) (λ b f. omega arith) step
  where
    low : (n : ℕ) → n / 2 ^ 0 % 2 ≡ n % 2
    low n = ap (λ (x : ℕ). x % 2) (div-one n)

    step : (a : ℕ) → ((b : ℕ) → ((c : ℕ) → Holds (a / 2) c → Holds b c) → a / 2 ≤ b) → (b : ℕ) → ((c : ℕ) → Holds a c → Holds b c) → a ≤ b
    step a ih b f =
        let halves : a / 2 ≤ b / 2 = ih (b / 2) (λ c h. sym (halved b c) ∙ f (suc c) (halved a c ∙ h)) in
        ⊎_elim (λ z. omega arith) (λ o. let one : b % 2 ≡ 1 = sym (low b) ∙ f 0 (low a ∙ o) in omega arith) (below_two a)

-- ---- what two bases share, and what either holds

bits_of : (op : ℕ → ℕ → ℕ) → ((a b k : ℕ) → op a b / 2 ^ k ≡ op (a / 2 ^ k) (b / 2 ^ k)) → ((a b k : ℕ) → op a b % 2 ^ k ≡ op (a % 2 ^ k) (b % 2 ^ k))
    → (a b c : ℕ) → op a b / 2 ^ c % 2 ≡ op (a / 2 ^ c % 2) (b / 2 ^ c % 2)
bits_of op shr rem a b c = ap (λ (x : ℕ). x % 2) (shr a b c) ∙ rem (a / 2 ^ c) (b / 2 ^ c) 1

pub both : (a b c : ℕ) → Holds a c → Holds b c → Holds (bit_and a b) c
unfolding Holds
both a b c p q = bits_of bit_and and_shr and_mod a b c ∙ ap₂ bit_and p q

bit_and_lem : (x y : ℕ) → (x ≡ 0) ⊎ (x ≡ 1) → (y ≡ 0) ⊎ (y ≡ 1) → bit_and x y ≡ 1 → (x ≡ 1) × (y ≡ 1)
bit_and_lem x y (inl p) q h = absurd (let z : ◌≡◌ {A = ℕ} 0 1 = sym (and_zero_l y) ∙ sym (ap (λ (v : ℕ). bit_and v y) p) ∙ h in omega arith)
bit_and_lem x y (inr p) (inl q) h = absurd (let z : ◌≡◌ {A = ℕ} 0 1 = sym (ap₂ bit_and p q) ∙ h in omega arith)
bit_and_lem x y (inr p) (inr q) h = (p, q)

pub shared : (a b c : ℕ) → Holds (bit_and a b) c → Holds a c × Holds b c
unfolding Holds
shared a b c h = bit_and_lem _ _ (below_two (a / 2 ^ c)) (below_two (b / 2 ^ c)) (sym (bits_of bit_and and_shr and_mod a b c) ∙ h)

bit_or_lem : (x y : ℕ) → (x ≡ 0) ⊎ (x ≡ 1) → (y ≡ 0) ⊎ (y ≡ 1) → bit_or x y ≡ 1 → (x ≡ 1) ⊎ (y ≡ 1)
bit_or_lem x y (inl p) q h = inr (sym (ap (λ (v : ℕ). bit_or v y) p ∙ or_zero_l y) ∙ h)
bit_or_lem x y (inr p) q h = inl p

pub either : (a b c : ℕ) → Holds (bit_or a b) c → Holds a c ⊎ Holds b c
unfolding Holds
either a b c h = bit_or_lem _ _ (below_two (a / 2 ^ c)) (below_two (b / 2 ^ c)) (sym (bits_of bit_or or_shr or_mod a b c) ∙ h)

or_first : (y : ℕ) → (y ≡ 0) ⊎ (y ≡ 1) → bit_or 1 y ≡ 1
or_first y (inl q) = ap (bit_or 1) q
or_first y (inr q) = ap (bit_or 1) q

or_second : (x : ℕ) → (x ≡ 0) ⊎ (x ≡ 1) → bit_or x 1 ≡ 1
or_second x (inl q) = ap (λ (v : ℕ). bit_or v 1) q
or_second x (inr q) = ap (λ (v : ℕ). bit_or v 1) q

pub in_first : (a b c : ℕ) → Holds a c → Holds (bit_or a b) c
unfolding Holds
in_first a b c h = bits_of bit_or or_shr or_mod a b c ∙ ap (λ (x : ℕ). bit_or x (b / 2 ^ c % 2)) h ∙ or_first _ (below_two (b / 2 ^ c))

pub in_second : (a b c : ℕ) → Holds b c → Holds (bit_or a b) c
unfolding Holds
in_second a b c h = bits_of bit_or or_shr or_mod a b c ∙ ap (λ (x : ℕ). bit_or (a / 2 ^ c % 2) x) h ∙ or_second _ (below_two (a / 2 ^ c))

-- ---- whether two bases meet

-- a base that is not the number 0 holds something
pub some_held : (b : ℕ) → (b ≡ 0 → ⊥) → (c : ℕ) × Holds b c
unfolding Holds
some_held = bin_ind (λ (b : ℕ). (b ≡ 0 → ⊥) → (c : ℕ) × Holds b c) (λ n. absurd (n refl)) step
  where
    step : (n : ℕ) → ((n / 2 ≡ 0 → ⊥) → (c : ℕ) × Holds (n / 2) c) → (n ≡ 0 → ⊥) → (c : ℕ) × Holds n c
    step n ih nz = ⊎_elim
        (λ z. let r = ih (λ h. nz (omega arith)) in (suc r.0, halved n r.0 ∙ r.1))
        (λ o. (0, ap (λ (x : ℕ). x % 2) (div-one n) ∙ o)) (below_two n)

pub meets_of : (a b : ℕ) → (bit_and a b ≡ 0 → ⊥) → Meets a b
meets_of a b nz = let h = some_held (bit_and a b) nz in let p = shared a b h.0 h.1 in record { shared = h.0; first = p.0; second = p.1 }

pub meets_not : (a b : ℕ) → bit_and a b ≡ 0 → Meets a b → ⊥
unfolding Empty
meets_not a b z m = none_in_zero m.shared (rw z at (both a b m.shared m.first m.second))

pub turned : {a b : ℕ} → Meets a b → Meets b a
turned m = record { shared = m.shared; first = m.second; second = m.first }

-- what is cut stays small
pub cut_small : (k x y : ℕ) {n : ℕ} → n ≡ bit_and x y → x < 2 ^ k → n < 2 ^ k
cut_small k x y d h = rw d (lt_of_le_of_lt (and_le_l x y) h)
