-- `row_steps::matching`: the positions picked among the blocks before j, and those of j where its base meets the base.
-- Assumes nothing.
use Rattle.bases.specs.Base.{Meets}
use Rattle.sets.specs.Set.{set_of, Exactly}
use Rattle.shapes.specs.Lent.{block_at}
use Rattle.rows.specs.Row.{slot_in}
use Rattle.row_steps.proofs.Steps.{Picked, Below}
use Rattle.row_steps.proofs.matching.Given as goal

abbrev pub invariant-loop-j : goal.invariant-loop-j
invariant-loop-j l = Exactly (set_of l.r) (Picked (Below l.j) (λ i. Meets (set_of l.base) (block_at l.blocks i).base) (slot_in l.layout))
