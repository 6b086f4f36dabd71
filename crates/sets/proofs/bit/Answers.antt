-- `sets::bit`: a one, shifted. Assumes nothing.
use mathlib.Core.Path.{refl}
use Prim.Native.Nat.{◌-◌}
use native.Mathlib.Omega.{arith}
use Rattle.sets.proofs.Exact.{exactly_as, exactly_at, none_exactly, one_exactly, one_shl}
use Rattle.sets.proofs.bit.Goals as goal

pub returns-then-k-w : goal.returns-then-k-w
returns-then-k-w c = none_exactly refl (λ e h. omega arith)

pub returns-then-w-k : goal.returns-then-w-k
returns-then-w-k c = none_exactly refl (λ e h. omega arith)

pub returns : goal.returns
returns c =
    let a = c.args in
    let j = a.k - a.w in
    exactly_at (one_shl j (omega arith)) (exactly_as (λ e h. (omega arith, omega arith)) (λ e h. omega arith) (one_exactly j))
