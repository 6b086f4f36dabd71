-- `row_steps::Row::forth` in one word: the ends to which a number of the row climbs through the zones. Assumes nothing.
use Rattle.std.proofs.Common.{refl}
use Rattle.sets.proofs.Exact.{held_under}
use Rattle.row_steps.proofs.Closing.{forth_closed}
use borrow.Author.Rules.{rules}
use Rattle.row_steps.proofs.U64Row.forth.Goals as goal

pub returns : goal.returns
returns c = record { holds = λ Z E k t a. forth_closed t a 64 (held_under 64 (search rules)) c.climb_word.ensures refl refl }
