-- `sets::highest`: the zeros above it. Assumes nothing.
use Prim.Native.Nat.{◌-◌, ◌<◌}
use native.Mathlib.Omega.{arith}
use lib.Count.{count_leading_zeros}
use Rattle.bases.specs.Base.{Greatest}
use Rattle.bases.proofs.Laws.{greatest_word}
use Rattle.sets.proofs.highest.Goals as goal

found : (c : goal.Start) → Greatest c.args.w (63 - count_leading_zeros 64 c.args.w) × (count_leading_zeros 64 c.args.w < 64)
found c = greatest_word _ c.ranges.w.fits c.requires

pub overflow_cast-result : goal.overflow_cast-result
overflow_cast-result c = let l = (found c).1 in omega arith

pub overflow_sub-result : goal.overflow_sub-result
overflow_sub-result c = let l = (found c).1 in omega arith

pub returns : goal.returns
returns c = ((found c).0, omega arith)
