-- `row_steps::joined_word`: the bases picked among the blocks before j, and that of j where its positions meet the row.
-- Assumes nothing.
use Rattle.std.proofs.Common.{refl, ap, arith}
use Rattle.shapes.specs.Shape.{Block}
use Rattle.row_steps.proofs.Steps.{next_up, picked_none, picked_more, added_with, tells_met_word}
use Rattle.row_steps.proofs.joined_word.Goals as goal

pub loop-j-init : goal.loop-j-init
loop-j-init c = picked_none (λ i h. omega arith) c.none-r.ensures

pub loop-j-preserved : goal.loop-j-preserved
loop-j-preserved c =
    let on = c.meets_word in
    picked_more (next_up _) (λ i h m. m) (λ i h m. m) c.loop-j.invariant
    (added_with on.result (tells_met_word refl on.ensures) (ap (λ (b : Block). b.base) c.block_at-b.ensures.result_value) c.with-r.ensures.result_value c.with-r.ensures.result_value_2)
