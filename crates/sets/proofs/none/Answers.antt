-- `sets::none`: four words of 0. Assumes nothing.
use mathlib.Core.Path.{refl}
use Rattle.bases.specs.Base.{base_of}
use Rattle.sets.specs.Set.{set_of}
use Rattle.sets.proofs.none.Goals as goal

pub returns : goal.returns
unfolding set_of base_of
returns c = refl
