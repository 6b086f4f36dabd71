-- `sets::either`: word by word. Assumes nothing.
use Rattle.sets.proofs.Four.{either_words}
use borrow.Author.Rules.{rules}
use Rattle.sets.proofs.either.Goals as goal

pub returns : goal.returns
returns c =
    let a = c.args in
    either_words a.s a.t (search rules) (search rules)
