-- `carries::plus`: word by word, each with what the word before carries on. Assumes nothing.
use Rattle.std.proofs.Common.{rules}
use Rattle.carries.proofs.Sums.{plus_words}
use borrow.Author.Rules.{rules}
use Rattle.carries.proofs.plus.Goals as goal

pub returns : goal.returns
returns c =
    plus_words c.args.s c.args.t _ _ _ _ _ (search rules) (search rules) (search rules) (search rules)
    c.carrying_add-a.ensures c.carrying_add-b.ensures c.carrying_add-c.ensures c.carrying_add-d.ensures
