-- `pad_rows::trail`: before each block the row has all that it leads to up to the block's start, since nothing crosses
-- that; past the end nothing moves. Assumes nothing.
use Rattle.std.proofs.Common.{◌<◌, ap, arith}
use Rattle.sets.specs.Set.{set_of}
use Rattle.shapes.specs.Shape.{Block, block_count}
use Rattle.shapes.specs.Lent.{shape_of}
use Rattle.row_lay.proofs.Laid.{total_zero, total_all}
use Rattle.pad_rows.proofs.Forth.{trail_none, trail_more, trail_all}
use Rattle.pad_rows.proofs.Lent.{bare, block_rows, start_next}
use Rattle.pad_rows.proofs.trail.Goals as goal

pub loop-j-init : goal.loop-j-init
loop-j-init c = trail_none (total_zero (shape_of c.args.y.now))

pub loop-j-preserved : goal.loop-j-preserved
loop-j-preserved c =
    let y = c.args.y.now in
    let small : c.loop-j.j < block_count y = omega (arith, c.requires.laid.long) in
    let rows = block_rows y small (set_of c.args.pad) c.requires.laid.lay (ap (λ (x : Block). x.base) c.block_at.ensures.result_value) c.meets.ensures in
    trail_more rows c.loop-j.invariant (start_next y small) c.trail_block-r.ensures

pub returns : goal.returns
returns c = trail_all (bare _ _) (total_all c.args.y.now c.loop-j.j (omega (arith, c.requires.laid.long))) c.loop-j.invariant
