-- Two ways to cut one list, a list's last element, and the greatest number with a property. Assumes nothing.
use mathlib.Core.Path.{◌≡◌, refl, sym, ap, subst}
use mathlib.Core.List.{List, [], ◌∷◌, ◌++◌, head-eq_of_cons-eq, tail-eq_of_cons-eq}
use mathlib.Core.Logic.{◌⊎◌, inl, inr, ⊎_elim}
use Prim.Native.Nat.{ℕ, zero, suc, ◌+◌, ◌≤◌, ◌<◌}
use native.Mathlib.Omega.{arith}
use lib.ListN.{length, length-append}
use Rattle.plain.proofs.Plain.{eq_or_ne}

-- a list cut twice: the longer front has the shorter one, and what lies between them
pub cut : (a b c d : List ℕ) → a ++ b ≡ c ++ d → length c ≤ length a → (e : List ℕ) × (a ≡ c ++ e) × (d ≡ e ++ b)
cut a b [] d h l = (a, refl, sym h)
cut [] b (x ∷ c) d h l = absurd (omega arith)
cut (y ∷ a) b (x ∷ c) d h l =
    let r = cut a b c d (tail-eq_of_cons-eq h) (omega arith) in
    (r.0, (λ i. head-eq_of_cons-eq h i ∷ r.1 i), r.2)

pub length_snoc : (t : List ℕ) (c : ℕ) → length (t ++ (c ∷ [])) ≡ length t + 1
length_snoc t c = length-append t (c ∷ [])

-- lists with equal last elements
pub snoc_front : (t u : List ℕ) (c d : ℕ) → t ++ (c ∷ []) ≡ u ++ (d ∷ []) → t ≡ u
snoc_front [] [] c d h = refl
snoc_front [] (y ∷ u) c d h = absurd (let e = ap length h in let l = length_snoc u d in omega arith)
snoc_front (x ∷ t) [] c d h = absurd (let e = ap length h in let l = length_snoc t c in omega arith)
snoc_front (x ∷ t) (y ∷ u) c d h = λ i. head-eq_of_cons-eq h i ∷ snoc_front t u c d (tail-eq_of_cons-eq h) i

pub snoc_last : (t u : List ℕ) (c d : ℕ) → t ++ (c ∷ []) ≡ u ++ (d ∷ []) → c ≡ d
snoc_last [] [] c d h = head-eq_of_cons-eq h
snoc_last [] (y ∷ u) c d h = absurd (let e = ap length h in let l = length_snoc u d in omega arith)
snoc_last (x ∷ t) [] c d h = absurd (let e = ap length h in let l = length_snoc t c in omega arith)
snoc_last (x ∷ t) (y ∷ u) c d h = snoc_last t u c d (tail-eq_of_cons-eq h)

-- the last element of a list that has one
pub last_cut : (t : List ℕ) → 0 < length t → (u : List ℕ) × (c : ℕ) × (t ≡ u ++ (c ∷ []))
last_cut [] l = absurd (omega arith)
last_cut (c ∷ []) l = ([], c, refl)
last_cut (x ∷ (y ∷ t)) l = let r = last_cut (y ∷ t) (omega arith) in (x ∷ r.0, r.1, ap (λ (z : List ℕ). x ∷ z) r.2)

pub list_eq : (a b : List ℕ) → (a ≡ b) ⊎ (a ≡ b → ⊥)
list_eq [] [] = inl refl
list_eq [] (y ∷ b) = inr (λ h. let e = ap length h in omega arith)
list_eq (x ∷ a) [] = inr (λ h. let e = ap length h in omega arith)
list_eq (x ∷ a) (y ∷ b) = ⊎_elim
    (λ p. ⊎_elim (λ q. inl (λ i. p i ∷ q i)) (λ q. inr (λ h. q (tail-eq_of_cons-eq h))) (list_eq a b))
    (λ p. inr (λ h. p (head-eq_of_cons-eq h)))
    (eq_or_ne x y)

-- the greatest number up to n that has P
pub greatest_to : (P : ℕ → Type 0) → ((k : ℕ) → P k ⊎ (P k → ⊥)) → P 0 → (n : ℕ) → (q : ℕ) × (q ≤ n) × P q × ((r : ℕ) → r ≤ n → P r → r ≤ q)
greatest_to P d z zero = (0, omega arith, z, λ r h p. h)
greatest_to P d z (suc n) = ⊎_elim
    (λ p. (suc n, omega arith, p, λ r h q. h))
    (λ p. let g = greatest_to P d z n in (g.0, (let a = g.1 in omega arith), g.2, λ r h q. ⊎_elim (λ e. absurd (p (subst_nat P e q))) (λ e. g.3 r (omega arith) q) (eq_or_ne r (suc n))))
    (d (suc n))
  where
    subst_nat : (P : ℕ → Type 0) {a b : ℕ} → a ≡ b → P a → P b
    subst_nat P e p = subst P e p
