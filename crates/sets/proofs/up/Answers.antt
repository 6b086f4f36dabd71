-- `sets::up`: word by word, with the bit that each hands on. Assumes nothing.
use Rattle.sets.proofs.Four.{up_words}
use borrow.Author.Rules.{rules}
use Rattle.sets.proofs.up.Goals as goal

pub returns : goal.returns
returns c = up_words c.args.s (search rules)
