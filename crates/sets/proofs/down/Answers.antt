-- `sets::down`: word by word, with the bit that each hands on. Assumes nothing.
use Rattle.sets.proofs.Four.{down_words}
use borrow.Author.Rules.{rules}
use Rattle.sets.proofs.down.Goals as goal

pub returns : goal.returns
returns c = down_words c.args.s (search rules)
