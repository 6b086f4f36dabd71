-- `row_steps::matching`: the positions picked among the blocks before j, and those of j where its base meets the base.
-- Assumes nothing.
use Rattle.std.proofs.Common.{refl, ap, ◌∙◌, arith}
use Rattle.sets.specs.Set.{set_of}
use Rattle.shapes.specs.Shape.{Block}
use Rattle.row_steps.proofs.Steps.{next_up, picked_none, picked_more, added_so, added_not, tells_met}
use Rattle.row_steps.proofs.matching.Goals as goal
use Rattle.row_steps.proofs.matching.Goals.{then-meets, else-meets}

pub loop-j-init : goal.loop-j-init
loop-j-init c = picked_none (λ i h. omega arith) c.none-r.ensures

pub loop-j-preserved : goal.loop-j-preserved
loop-j-preserved c =
    let l = c.loop-j in
    let tells = tells_met (ap (λ (b : Block). b.base) c.block_at-b.ensures.result_value) c.meets.ensures in
    picked_more (next_up _) (λ i h m. m) (λ i h m. m) l.invariant (elim c.if-meets.branch [
      | then-meets w ↦ added_so (tells.so w.if-meets.true) refl (ap set_of w.r-is ∙ w.either-r.ensures)
      | else-meets w ↦ added_not (tells.not_so w.if-meets.false) (ap set_of w.r-is)
    ])
