-- `letters::both_cases`: the letters all stand in the second word. Assumes nothing.
use Rattle.letters.proofs.Words.{both_cases}
use borrow.Author.Rules.{rules}
use Rattle.letters.proofs.both_cases.Goals as goal

pub returns : goal.returns
returns c = both_cases c.args.s (search rules) c.spread.result (search rules) c.spread.ensures
