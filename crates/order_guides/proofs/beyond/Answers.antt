-- `order_guides::beyond`: those below, or those above, as asked. Assumes nothing.
use Rattle.order_guides.proofs.Text.{below_code, above_code}
use Rattle.order_guides.proofs.beyond.Goals as goal

pub returns-in-Least : goal.returns-in-Least
returns-in-Least c = below_code _ _ c.in-Least.is c.below.ensures

pub returns-in-Greatest : goal.returns-in-Greatest
returns-in-Greatest c = above_code _ _ c.in-Greatest.is c.between.ensures
