-- `find_borders::next_borders`: one up, and 0. Assumes nothing.
use Rattle.find_borders.proofs.Words.{up_one}
use Rattle.find_borders.proofs.next_borders.Goals as goal

pub returns : goal.returns
returns c = up_one _ _
