-- `row_steps::all_runs`: block by block. Assumes nothing.
use Rattle.sets.specs.Set.{set_of, Exactly}
use Rattle.rows.specs.Row.{zone_in, end_in}
use Rattle.rows.specs.Steps.{AnyOf}
use Rattle.row_steps.proofs.all_runs.Given as goal

abbrev pub invariant-loop-laid : goal.invariant-loop-laid
invariant-loop-laid l = Exactly (set_of l.free) (AnyOf (zone_in l.layout) l.laid-index) × Exactly (set_of l.stops) (AnyOf (end_in l.layout) l.laid-index)
