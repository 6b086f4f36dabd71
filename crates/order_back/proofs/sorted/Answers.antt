-- `order_back::sorted`: the blocks whose bases meet the two, and past them the end where a text may end.
-- Assumes nothing.
use Rattle.order_back.proofs.Groups.{with_end}
use Rattle.order_back.proofs.sorted.Goals as goal

pub returns : goal.returns
returns c = record {
  stays = c.matching.ensures;
  parts = c.matching-parts.ensures;
  leaves = with_end _ _ _ c.args.may c.single.ensures c.with.ensures.result_value c.with.ensures.result_value_2;
}
