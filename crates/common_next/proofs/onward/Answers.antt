-- `common_next::onward`: closed under the ends of runs, of which there are none where no run may end. Assumes nothing.
use mathlib.Core.Path.{refl}
use Rattle.sets.specs.Set.{set_of}
use Rattle.row_paths.proofs.Laid.{laid_turn, laid_zones}
use Rattle.common_weighs.proofs.Ends.{ended_row, ended_none}
use Rattle.common_next.proofs.onward.Goals as goal

pub returns-then-meets : goal.returns-then-meets
returns-then-meets c = λ x e. ended_row (laid_zones e.laid refl) (c.close_forth.ensures.holds _ _ _ (laid_turn e.laid refl) e.all)

pub returns : goal.returns
returns c = λ x e. ended_none x (set_of _) (set_of _) e (c.meets.ensures.not_so c.if-meets.false)
