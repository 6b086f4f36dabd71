-- `sets::lowest`: the zeros below it. Assumes nothing.
use Prim.Native.Nat.{◌<◌}
use native.Mathlib.Omega.{arith}
use lib.Count.{count_trailing_zeros}
use Rattle.bases.specs.Base.{Least}
use Rattle.sets.proofs.Words.{lowest_bit}
use Rattle.sets.proofs.lowest.Goals as goal

found : (c : goal.Start) → Least c.args.w (count_trailing_zeros 64 c.args.w) × (count_trailing_zeros 64 c.args.w < 64)
found c = lowest_bit _ c.ranges.w.fits c.requires

pub overflow_cast-result : goal.overflow_cast-result
overflow_cast-result c = let l = (found c).1 in omega arith

pub returns : goal.returns
returns c = found c
