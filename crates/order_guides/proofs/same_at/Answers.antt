-- `order_guides::same_at`: before the end the one character, past it none. Assumes nothing.
use borrow.Author.Rules.{rules}
use Rattle.order_guides.proofs.Text.{next_code, next_none}
use Rattle.order_guides.proofs.same_at.Goals as goal

pub returns-in-Some : goal.returns-in-Some
returns-in-Some c = next_code _ _ _ _ (search rules) (search rules) c.single.ensures

pub returns-in-None : goal.returns-in-None
returns-in-None c = next_none _ _ _ (search rules) c.none.ensures
