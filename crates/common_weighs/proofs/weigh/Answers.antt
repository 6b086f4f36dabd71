-- `common_weighs::weigh`: dropped where both can take nothing, else the least of what was not seen. Assumes nothing.
use mathlib.Core.Path.{refl}
use Rattle.sets.specs.Set.{set_of}
use Rattle.common_weighs.specs.Code.{some}
use Rattle.common_weighs.proofs.weigh.Goals as goal

pub returns : goal.returns
returns c = some (set_of _) c.without-2.ensures c.sooner.ensures c.either.ensures refl
