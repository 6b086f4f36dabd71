-- `find_rows::reach`: two past the greatest live state, or the mark's length. Assumes nothing.
use mathlib.Core.Path.{◌≡◌, subst}
use Prim.Native.Nat.{ℕ}
use native.Mathlib.Omega.{arith}
use Rattle.bases.specs.Base.{Holds, Empty}
use Rattle.bases.proofs.Laws.{none_in_zero}
use Rattle.find_rows.proofs.reach.Goals as goal

none-live : (w q : ℕ) → w ≡ 0 → Holds w q → ⊥
unfolding Empty
none-live w q z h = none_in_zero q (subst (λ (x : ℕ). Holds x q) z h)

pub returns-then-live-eq0 : goal.returns-then-live-eq0
returns-then-live-eq0 c = (omega arith, λ t q l m h. absurd (none-live _ q c.if-live-eq0.true h))

pub returns : goal.returns
returns c = (omega arith, λ t q l m h. let g = c.highest.ensures.0.greatest q h in omega arith)
