-- `pad_rows::tail_of`: before each block the rows have all from its start on, since a block leads on exactly if its end
-- does. Assumes nothing.
use Rattle.std.proofs.Common.{◌≡◌, ◌+◌, ◌-◌, ◌<◌, ap, ◌∙◌, arith}
use Rattle.sets.specs.Set.{set_of}
use Rattle.sets.proofs.Exact.{exactly_at}
use Rattle.shapes.specs.Shape.{Block, block_count}
use Rattle.shapes.specs.Lent.{shape_of}
use Rattle.row_lay.specs.Lay.{start}
use Rattle.row_lay.proofs.Laid.{total_zero, total_all}
use Rattle.pads.proofs.Paths.{ended}
use Rattle.pad_rows.proofs.Back.{takes_some, takes_none, tails_end, tails_more, tails_all}
use Rattle.pad_rows.proofs.Lent.{base_end, block_rows, block_fits, start_next}
use Rattle.pad_rows.proofs.tail_of.Goals as goal
use Rattle.pad_rows.proofs.tail_of.Goals.{then-is_empty, else-is_empty}

pub loop-j-init : goal.loop-j-init
loop-j-init c =
    let y = c.args.y.now in
    let pad = set_of c.args.pad in
    tails_end (total_all y _ (omega (arith, c.requires.laid.long))) c.requires.end (ended pad (shape_of y)) (base_end pad (shape_of y))
    c.single-end.ensures c.none.ensures (elim c.if-is_empty.branch [
      | then-is_empty w ↦ exactly_at (ap set_of w.t-is) (takes_none (c.is_empty.ensures.so w.if-is_empty.true) w.none-then-is_empty.ensures)
      | else-is_empty w ↦ exactly_at (ap set_of w.t-is) (takes_some (c.is_empty.ensures.not_so w.if-is_empty.false) c.single-end.ensures)
    ])

pub loop-j-preserved : goal.loop-j-preserved
loop-j-preserved c =
    let y = c.args.y.now in
    let j = c.loop-j.j in
    let small : j - 1 < block_count y = omega (arith, c.requires.laid.long) in
    let rows = block_rows y small (set_of c.args.pad) c.requires.laid.lay (ap (λ (x : Block). x.base) c.block_at.ensures.result_value) c.meets.ensures in
    let e : j ≡ j - 1 + 1 = omega arith in
    tails_more rows (block_fits y small) (ap (start (shape_of y)) e ∙ start_next y small) c.loop-j.invariant c.tail_block-t.ensures

pub returns : goal.returns
returns c =
    let y = shape_of c.args.y.now in
    let e : c.loop-j.j ≡ 0 = omega arith in
    tails_all (ap (start y) e ∙ total_zero y) c.loop-j.invariant
