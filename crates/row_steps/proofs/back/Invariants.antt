-- `row_steps::back`: after each step the row is closed under those from it on, and `quit` has from where these lead
-- into it. Assumes nothing.
use Rattle.std.proofs.Common.{length}
use Rattle.bases.specs.Base.{Meets}
use Rattle.sets.specs.Set.{set_of, Exactly}
use Rattle.rows.specs.Row.{zone_in, end_in}
use Rattle.row_steps.proofs.Steps.{Reached, Picked, From}
use Rattle.row_steps.proofs.back.Given as goal

abbrev pub invariant-loop-j : goal.invariant-loop-j
invariant-loop-j l =
    Reached (zone_in l.layout) (end_in l.layout) (length l.layout) (set_of l.initial.row) (From l.j (length l.layout)) (set_of l.row)
    × Exactly (set_of l.quit) (Picked (From l.j (length l.layout)) (λ i. Meets (set_of l.row) (end_in l.layout i)) (zone_in l.layout))
