-- `row_steps::all_runs`: block by block. Assumes nothing.
use Rattle.std.proofs.Common.{refl}
use Rattle.row_steps.proofs.Closing.{any_none, any_more}
use Rattle.row_steps.proofs.all_runs.Goals as goal

pub loop-laid-init : goal.loop-laid-init
loop-laid-init c = (any_none c.none-free.ensures, any_none c.none-stops.ensures)

pub loop-laid-preserved : goal.loop-laid-preserved
loop-laid-preserved c = let l = c.loop-laid.invariant in (any_more l.0 refl c.either-free.ensures, any_more l.1 refl c.either-stops.ensures)
