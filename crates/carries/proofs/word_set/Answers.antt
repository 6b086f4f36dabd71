-- `carries::word_set`: the other words are 0. Assumes nothing.
use Rattle.std.proofs.Common.{refl}
use Rattle.carries.proofs.Short.{one_word_set}
use Rattle.carries.proofs.word_set.Goals as goal

pub returns : goal.returns
returns c = (one_word_set _, refl)
