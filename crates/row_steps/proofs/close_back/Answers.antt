-- `row_steps::close_back`: what falls through the zones to an end in the row. Assumes nothing.
use Rattle.row_steps.proofs.Closing.{back_closed}
use Rattle.row_steps.proofs.close_back.Goals as goal

pub returns : goal.returns
returns c = record { holds = λ Z E k t a. back_closed t a _ c.both.ensures c.fall-quit.ensures c.either.ensures }
