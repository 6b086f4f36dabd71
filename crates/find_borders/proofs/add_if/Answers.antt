-- `find_borders::add_if`: a bit or none. Assumes nothing.
use Rattle.find_borders.proofs.Words.{added, not_added}
use Rattle.find_borders.proofs.add_if.Goals as goal

pub returns-then-yes : goal.returns-then-yes
returns-then-yes c = added _ _ c.requires c.if-yes.true

pub returns-else-yes : goal.returns-else-yes
returns-else-yes c = not_added _ _ c.if-yes.false
