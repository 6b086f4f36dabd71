-- `sets::ones`: a one, shifted, less one. Assumes nothing.
use mathlib.Core.Path.{refl, ap}
use Prim.Native.Nat.{ℕ, ◌-◌, ◌<◌}
use native.Mathlib.Omega.{arith}
use lib.Pow.{pow_pos}
use Rattle.sets.proofs.Exact.{exactly_as, exactly_at, none_exactly, ones_exactly, one_shl}
use Rattle.sets.proofs.ones.Goals as goal

-- how many of the word's numbers lie below k
abbrev count : goal.Else-w-k → ℕ
count c = c.args.k - c.args.w

small : (c : goal.Else-w-k) → count c < 64
small c = omega arith

pub returns-then-k-w : goal.returns-then-k-w
returns-then-k-w c = none_exactly refl (λ e h. omega arith)

pub returns-then-w-k : goal.returns-then-w-k
returns-then-w-k c = exactly_as (λ e h. (h, omega arith)) (λ e h. h.0) (ones_exactly 64)

pub overflow_sub-result-2 : goal.overflow_sub-result-2
overflow_sub-result-2 c = rw (one_shl (count c) (small c)) (pow_pos (count c))

pub returns : goal.returns
returns c =
    exactly_at (ap (λ (x : ℕ). x - 1) (one_shl (count c) (small c)))
    (exactly_as (λ e h. (omega arith, omega arith)) (λ e h. omega arith) (ones_exactly (count c)))
