-- `row_steps::close_back_word`: as `close_back`. Assumes nothing.
use mathlib.Core.Path.{refl}
use Rattle.row_steps.proofs.Closing.{back_closed}
use Rattle.row_steps.proofs.close_back_word.Goals as goal

pub returns : goal.returns
returns c = record { holds = λ Z E k t a. back_closed t a _ refl c.fall_to_word-quit.ensures refl }
