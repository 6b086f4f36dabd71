-- `order_forth::next_mask`: the same character is held where it was, another is looked for. Assumes nothing.
use Rattle.order_guides.proofs.Text.{next_same}
use Rattle.order_forth.proofs.Pass.{same_mask}
use Rattle.order_forth.proofs.next_mask.Goals as goal

pub returns-then-text-q : goal.returns-then-text-q
returns-then-text-q c = same_mask (next_same _ _ c.if-q-gt0.true c.requires.within c.if-text-q.true) (c.requires.exactly c.if-q-gt0.true)
