-- The test of sharing tells whether two bases share a character. Assumes nothing.
use mathlib.Core.Path.{◌≡◌, refl, sym, ap, ◌∙◌, subst}
use mathlib.Core.Bool.{Bool, true, false, true≢false}
use Prim.Native.Nat.{ℕ, zero, suc, ◌+◌, ◌/◌, ◌%◌, ◌^◌, ◌≤◌}
use native.Mathlib.Nat.{mod-lt, div-one}
use native.Mathlib.Omega.{arith}
use lib.Dec.{eqb, lit<}
use borrow.Author.Tests.{eqb-true, eqb-false}
use Rattle.bases.specs.Base.{Holds, Empty, Meets}
use Rattle.plain.specs.Tells.{Tells}
use Rattle.bases.proofs.Laws.{halved, none_in_zero}
use Rattle.sweep_steps.specs.Share.{shares_within, shares}

low_bit : (n : ℕ) → n / 2 ^ 0 % 2 ≡ n % 2
low_bit n = ap (λ (x : ℕ). x % 2) (div-one n)

none_shared : (b : ℕ) → Meets 0 b → ⊥
unfolding Empty
none_shared b m = none_in_zero m.shared m.first

-- a shared character of the halves is one of the wholes, one higher
up : (a b : ℕ) → Meets (a / 2) (b / 2) → Meets a b
unfolding Holds
up a b m = record { shared = suc m.shared; first = halved a m.shared ∙ m.first; second = halved b m.shared ∙ m.second }

both_odd : (a b : ℕ) → a % 2 + b % 2 ≡ 2 → Meets a b
unfolding Holds
both_odd a b e =
    let ha = mod-lt a {m = 2} (lit< tt) in
    let hb = mod-lt b {m = 2} (lit< tt) in
    record { shared = 0; first = low_bit a ∙ omega arith; second = low_bit b ∙ omega arith }

-- and the other way, but for the character 0
down : (a b : ℕ) → (a % 2 + b % 2 ≡ 2 → ⊥) → Meets a b → Meets (a / 2) (b / 2)
unfolding Holds
down a b odd m = go m.shared m.first m.second
  where
    go : (c : ℕ) → Holds a c → Holds b c → Meets (a / 2) (b / 2)
    go zero p q = let p' = sym (low_bit a) ∙ p in let q' = sym (low_bit b) ∙ q in absurd (odd (omega arith))
    go (suc c) p q = record { shared = c; first = sym (halved a c) ∙ p; second = sym (halved b c) ∙ q }

tells_step : (n a b : ℕ) → (a / 2 ≤ n → Tells (shares_within n (a / 2) (b / 2)) (Meets (a / 2) (b / 2))) → a ≤ suc n → Tells (shares_within (suc n) a b) (Meets a b)
unfolding shares_within
tells_step n a b ih h = go (eqb a 0) refl (eqb (a % 2 + b % 2) 2) refl
  where
    go : (t : Bool) → eqb a 0 ≡ t → (u : Bool) → eqb (a % 2 + b % 2) 2 ≡ u
        → Tells (elim t [ true ↦ false | false ↦ elim u [ true ↦ true | false ↦ shares_within n (a / 2) (b / 2) ] ]) (Meets a b)
    go true e u f = record { so = λ x. absurd (true≢false (sym x)); not_so = λ x m. none_shared b (subst (λ (z : ℕ). Meets z b) (eqb-true a 0 e) m) }
    go false e true f = record { so = λ x. both_odd a b (eqb-true (a % 2 + b % 2) 2 f); not_so = λ x. absurd (true≢false x) }
    go false e false f =
        let r = ih (omega (arith, eqb-false a 0 e)) in
        record { so = λ x. up a b (r.so x); not_so = λ x m. r.not_so x (down a b (eqb-false (a % 2 + b % 2) 2 f) m) }

tells_within : (n a b : ℕ) → a ≤ n → Tells (shares_within n a b) (Meets a b)
unfolding shares_within
tells_within zero a b h =
    let z : a ≡ 0 = omega arith in
    record { so = λ x. absurd (true≢false (sym x)); not_so = λ x m. none_shared b (subst (λ (z : ℕ). Meets z b) z m) }
tells_within (suc n) a b h = tells_step n a b (λ g. tells_within n (a / 2) (b / 2) g) h

pub shares_tells : (a b : ℕ) → Tells (shares a b) (Meets a b)
unfolding shares
shares_tells a b = tells_within a a b (omega arith)

-- so an answer that tells it is this test's
pub shares_same : (r : Bool) (a b : ℕ) → Tells r (Meets a b) → r ≡ shares a b
shares_same r a b t = go r (shares a b) t (shares_tells a b)
  where
    go : (r s : Bool) → Tells r (Meets a b) → Tells s (Meets a b) → r ≡ s
    go true true t u = refl
    go true false t u = absurd (u.not_so refl (t.so refl))
    go false true t u = absurd (t.not_so refl (u.so refl))
    go false false t u = refl
