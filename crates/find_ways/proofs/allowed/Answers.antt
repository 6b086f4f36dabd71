-- `find_ways::allowed`: a test of each character of the mark. Assumes nothing.
use borrow.Author.Rules.{rules}
use Rattle.find_borders.proofs.Collect.{collected}
use Rattle.find_ways.proofs.allowed.Goals as goal

pub returns : goal.returns
returns c = collected c.numbers.ensures (λ r b l p. search rules)
