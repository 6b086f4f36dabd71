-- `order_guides::past`: none below the end, all above it. Assumes nothing.
use Rattle.order_guides.proofs.Text.{past_none, past_all}
use Rattle.order_guides.proofs.past.Goals as goal

pub returns-in-Least : goal.returns-in-Least
returns-in-Least c = past_none _ c.in-Least.is c.none.ensures

pub returns-in-Greatest : goal.returns-in-Greatest
returns-in-Greatest c = past_all _ c.in-Greatest.is c.below.ensures
