-- `orders::narrow_by`: the extreme text of the other shape, then the one side. Assumes nothing.
use Rattle.orders.proofs.Narrowed.{text_taken, one_by}
use Rattle.orders.proofs.narrow_by.Goals as goal

pub returns : goal.returns
returns c = one_by (text_taken c.write_extreme-m.ensures) c.narrow_side.ensures
