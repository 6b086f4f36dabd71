-- `find_borders::same`: a test of each character. Assumes nothing.
use borrow.Author.Rules.{rules}
use borrow.Author.Tests.{eqb-true, eqb-false}
use Rattle.find_borders.proofs.Collect.{collected}
use Rattle.find_borders.proofs.same.Goals as goal

pub returns : goal.returns
returns c = collected c.numbers.ensures (λ q r l p. record { so = λ e. eqb-true _ _ (search rules); not_so = λ e. eqb-false _ _ (search rules) })
