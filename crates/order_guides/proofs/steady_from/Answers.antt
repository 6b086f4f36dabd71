-- `order_guides::steady_from`: from lo on the character is c, so the guide says the same. Assumes nothing.
use borrow.Author.Rules.{rules}
use Rattle.order_guides.proofs.Text.{run_steady}
use Rattle.order_guides.proofs.steady_from.Goals as goal

pub returns-in-Some-clause-steady : goal.returns-in-Some-clause-steady
returns-in-Some-clause-steady c = λ d strict. run_steady _ _ _ _ _ _ c.requires.hi_nonzero.0 (search rules) (search rules) c.run_of.ensures.same
