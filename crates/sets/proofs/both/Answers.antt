-- `sets::both`: word by word. Assumes nothing.
use Rattle.sets.proofs.Four.{both_words}
use borrow.Author.Rules.{rules}
use Rattle.sets.proofs.both.Goals as goal

pub returns : goal.returns
returns c =
    let a = c.args in
    both_words a.s a.t (search rules) (search rules)
