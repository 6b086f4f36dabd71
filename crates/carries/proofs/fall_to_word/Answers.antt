-- `carries::fall_to_word`: one below, and then as the word falls. Assumes nothing.
use Rattle.std.proofs.Common.{refl}
use Rattle.carries.proofs.Doubled.{near_first}
use Rattle.carries.proofs.fall_to_word.Goals as goal

pub returns : goal.returns
returns c = c.fall_word.ensures.holds _ (near_first _ _ refl refl)
