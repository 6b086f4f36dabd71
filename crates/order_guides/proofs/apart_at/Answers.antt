-- `order_guides::apart_at`: past the end as of the end, else as of the character. Assumes nothing.
use borrow.Author.Rules.{rules}
use Rattle.order_guides.proofs.Text.{apart_code, apart_none}
use Rattle.order_guides.proofs.apart_at.Goals as goal

pub returns-in-Some : goal.returns-in-Some
returns-in-Some c = apart_code _ _ _ _ _ (search rules) (search rules) c.beyond.ensures

pub returns-in-None : goal.returns-in-None
returns-in-None c = apart_none _ _ _ _ (search rules) c.past.ensures
