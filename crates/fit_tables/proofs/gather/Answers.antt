-- `fit_tables::gather`: the row of the lowest number left is added, and the number taken off. Assumes nothing.
use mathlib.Core.Path.{◌∙◌, ap}
use Prim.Native.Nat.{◌<◌}
use native.Mathlib.Omega.{arith}
use lib.Bits.{bit_or}
use lib.Count.{count_trailing_zeros}
use Rattle.bases.specs.Base.{Least}
use Rattle.sets.specs.Set.{set_of}
use Rattle.sets.proofs.Words.{lowest_bit}
use Rattle.fit_tables.proofs.Lowest.{fewer_left}
use Rattle.fit_tables.proofs.Table.{picking_none, picking_more, picking_done}
use Rattle.fit_tables.proofs.gather.Goals as goal

pub loop-left-init : goal.loop-left-init
loop-left-init g c = (omega arith, λ R h. picking_none _ _ _)

pub loop-left-smaller : goal.loop-left-smaller
loop-left-smaller g c = fewer_left _ c.loop-left-test.true

pub returns : goal.returns
returns g c = λ R h. picking_done _ _ _ c.loop-left-test.false (c.loop-left.invariant.1 R h)

pub loop-left-preserved : goal.loop-left-preserved
loop-left-preserved g c =
    let l = c.loop-left in
    let lowest : Least l.left (count_trailing_zeros 64 l.left) × (count_trailing_zeros 64 l.left < 64)
    = lowest_bit _ (let w = c.ranges.w.fits in omega arith) c.loop-left-test.true in
    let fewer = fewer_left _ c.loop-left-test.true in (
      omega arith,
      λ R h. picking_more _ _ _ lowest.0 (c.either-r.ensures ∙ ap (bit_or (set_of l.r)) (h _ _ lowest.1 c.row.ensures)) (l.invariant.1 R h),
    )
