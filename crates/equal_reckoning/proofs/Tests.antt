-- Tests that tell: joined, of numbers, of bases, and over lists. Assumes nothing.
use mathlib.Core.Path.{◌≡◌, refl, sym, ap, ◌∙◌, subst}
use mathlib.Core.Bool.{Bool, true, false, true≢false, false≢true}
use mathlib.Core.Logic.{◌⊎◌, inl, inr, ⊎_elim}
use Prim.Native.Nat.{ℕ, zero, suc, ◌+◌, ◌≤◌, ◌<◌}
use native.Mathlib.Omega.{arith}
use borrow.Author.Tests.{eqb-true, eqb-false, ltb-true, ltb-false, leb-true, leb-false, not-true, not-false}
use lib.Dec.{eqb, ltb, leb}
use lib.Bits.{bit_and}
use lib.ListN.{get_or}
use Rattle.bases.specs.Base.{Meets}
use Rattle.plain.specs.Tells.{Tells}
use Rattle.plain.proofs.Plain.{lt_or_le}
use Rattle.bases.proofs.Sets.{meets_of, meets_not}
use Rattle.equal_reckoning.specs.Equal.{or, and, meet, listed, some, if}

module _ {P Q : Type 0} where
  pub tells_map : {a : Bool} → (P → Q) → (Q → P) → Tells a P → Tells a Q
  tells_map f g t = record { so = λ e. f (t.so e); not_so = λ e q. t.not_so e (g q) }

  pub tells_or : {a b : Bool} → Tells a P → Tells b Q → Tells (or a b) (P ⊎ Q)
  unfolding or
  tells_or {a = true} t u = record { so = λ e. inl (t.so refl); not_so = λ e. absurd (true≢false e) }
  tells_or {a = false} t u = record { so = λ e. inr (u.so e); not_so = λ e. ⊎_elim (t.not_so refl) (u.not_so e) }

  pub tells_and : {a : Bool} (b : Bool) → Tells a P → (P → Tells b Q) → Tells (and a b) (P × Q)
  unfolding and
  tells_and {a = true} b t f = let p = t.so refl in let u = f p in record { so = λ e. (p, u.so e); not_so = λ e q. u.not_so e q.1 }
  tells_and {a = false} b t f = record { so = λ e. absurd (false≢true e); not_so = λ e q. t.not_so refl q.0 }

pub tells_as : {a b : Bool} {P : Type 0} → a ≡ b → Tells b P → Tells a P
tells_as {P} e t = subst (λ (v : Bool). Tells v P) (sym e) t

pub tells_eqb : (x y : ℕ) → Tells (eqb x y) (x ≡ y)
tells_eqb x y = record { so = eqb-true x y; not_so = eqb-false x y }

pub tells_ltb : (x y : ℕ) → Tells (ltb x y) (x < y)
tells_ltb x y = record { so = ltb-true x y; not_so = λ e h. let g = ltb-false x y e in omega arith }

pub tells_leb : (x y : ℕ) → Tells (leb x y) (x ≤ y)
tells_leb x y = record { so = leb-true x y; not_so = λ e h. let g = leb-false x y e in omega arith }

pub tells_meet : (a b : ℕ) → Tells (meet a b) (Meets a b)
unfolding meet
tells_meet a b = record {
  so = λ e. meets_of a b (eqb-false (bit_and a b) 0 (not-true _ e));
  not_so = λ e. meets_not a b (eqb-true (bit_and a b) 0 (not-false _ e));
}

-- P holds of some number below n
abbrev pub Under : (ℕ → Type 0) → ℕ → Type 0
Under P n = (k : ℕ) × (k < n) × P k

-- below n + 1: of n, or of one below n
module _ (P : ℕ → Type 0) {n : ℕ} where
  pub under_to : P n ⊎ Under P n → Under P (suc n)
  under_to (inl p) = (n, omega arith, p)
  under_to (inr x) = let l = x.1 in (x.0, omega arith, x.2)

  pub under_of : Under P (suc n) → P n ⊎ Under P n
  under_of x = let l = x.1 in ⊎_elim (λ g. inr (x.0, g, x.2)) (λ g. inl (subst P (let e : x.0 ≡ n = omega arith in e) x.2)) (lt_or_le x.0 n)

pub tells_some : (f : ℕ → Bool) (P : ℕ → Type 0) (n : ℕ) → ((k : ℕ) → k < n → Tells (f k) (P k)) → Tells (some f n) (Under P n)
unfolding some
tells_some f P zero h = record { so = λ e. absurd (false≢true e); not_so = λ e x. let l = x.1 in omega arith }
tells_some f P (suc n) h = tells_map (under_to P) (under_of P) (tells_or (h n (omega arith)) (tells_some f P n (λ k l. h k (omega arith))))

pub if_cases : {P : Type 0} (Q : ℕ → Type 0) (a b : ℕ) {v : Bool} → Tells v P → (P → Q a) → ((P → ⊥) → Q b) → Q (if v a b)
unfolding if
if_cases Q a b {v = true} t f g = f (t.so refl)
if_cases Q a b {v = false} t f g = g (t.not_so refl)

-- what stands at a place of a list
pub listed_at : {A : Type 0} (f : ℕ → A) (d : A) (i n k : ℕ) → k < n → get_or (listed f i n) k d ≡ f (i + k)
unfolding listed
listed_at f d i zero k h = absurd (omega arith)
listed_at f d i (suc n) zero h = ap f (let e : i ≡ i + 0 = omega arith in e)
listed_at f d i (suc n) (suc k) h = listed_at f d (i + 1) n k (omega arith) ∙ ap f (let e : i + 1 + k ≡ i + suc k = omega arith in e)
