-- `carries::word_down`: each word in the place of the one before. Assumes nothing.
use Rattle.std.proofs.Common.{rules}
use Rattle.carries.proofs.Shifts.{word_down_words}
use borrow.Author.Rules.{rules}
use Rattle.carries.proofs.word_down.Goals as goal

pub returns : goal.returns
returns c = word_down_words c.args.s (search rules)
