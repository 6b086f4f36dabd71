-- `sets::over`: a word more, and the last lost. Assumes nothing.
use Rattle.sets.proofs.Four.{over_words}
use borrow.Author.Rules.{rules}
use Rattle.sets.proofs.over.Goals as goal

pub returns : goal.returns
returns c = over_words c.args.s (search rules) c.args.w (search rules)
