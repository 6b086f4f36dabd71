-- `row_steps::share_wide`: of the blocks before j, the bases picked and the sets given to. Assumes nothing.
use Rattle.bases.specs.Base.{Meets}
use Rattle.sets.specs.Set.{set_of, Exactly}
use Rattle.shapes.specs.Lent.{block_at}
use Rattle.rows.specs.Row.{slot_in}
use Rattle.row_steps.proofs.Steps.{Picked, Below, Giving}
use Rattle.row_steps.proofs.share_wide.Given as goal

abbrev pub invariant-loop-j : goal.invariant-loop-j
invariant-loop-j l = Exactly (set_of l.r) (Picked (Below l.j) (λ i. Meets (set_of l.row) (slot_in l.layout i)) (λ i. (block_at l.blocks i).base)) × Giving (slot_in l.layout) (set_of l.row) (set_of l.base) l.initial.given l.given l.j
