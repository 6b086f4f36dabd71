-- `row_steps::joined_wide`: the bases picked among the blocks before j, and that of j where its positions meet the row.
-- Assumes nothing.
use Rattle.std.proofs.Common.{ap, ◌∙◌, arith}
use Rattle.sets.specs.Set.{set_of}
use Rattle.shapes.specs.Shape.{Block}
use Rattle.row_steps.proofs.Steps.{next_up, picked_none, picked_more, added_so, added_not}
use Rattle.row_steps.proofs.joined_wide.Goals as goal
use Rattle.row_steps.proofs.joined_wide.Goals.{then-meets, else-meets}

pub loop-j-init : goal.loop-j-init
loop-j-init c = picked_none (λ i h. omega arith) c.none-r.ensures

pub loop-j-preserved : goal.loop-j-preserved
loop-j-preserved c =
    let l = c.loop-j in
    let tells = c.meets.ensures in
    picked_more (next_up _) (λ i h m. m) (λ i h m. m) l.invariant (elim c.if-meets.branch [
      | then-meets w ↦ added_so (tells.so w.if-meets.true) (ap (λ (b : Block). b.base) w.block_at-b.ensures.result_value) (ap set_of w.r-is ∙ w.either-r.ensures)
      | else-meets w ↦ added_not (tells.not_so w.if-meets.false) (ap set_of w.r-is)
    ])
