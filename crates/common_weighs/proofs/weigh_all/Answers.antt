-- `common_weighs::weigh_all`: one position after the other, each the least of those left. Assumes nothing.
use mathlib.Core.Path.{refl}
use mathlib.Core.Logic.{inl, inr}
use Rattle.sets.specs.Set.{set_of}
use Rattle.sets.proofs.Exact.{without_one, one_fewer}
use Rattle.common_weighs.proofs.Weighing.{weighed_more, weighed_all}
use Rattle.common_weighs.proofs.weigh_all.Goals as goal

pub returns-then-g-least : goal.returns-then-g-least
returns-then-g-least c = weighed_all _ _ c.loop-base.invariant (inr c.if-g-least.true)

pub loop-base-smaller : goal.loop-base-smaller
loop-base-smaller c = one_fewer (set_of _) _ (without_one (set_of _) c.single.ensures c.without-left.ensures) c.first-i.ensures.0.held

pub loop-base-preserved : goal.loop-base-preserved
loop-base-preserved c = weighed_more _ _ _ _ c.loop-base.invariant c.first-i.ensures.0.held (without_one (set_of _) c.single.ensures c.without-left.ensures) refl c.down.ensures c.both-here.ensures c.weigh-g.ensures

pub returns : goal.returns
returns c = weighed_all _ _ c.loop-base.invariant (inl (c.is_empty.ensures.so c.loop-base-test.false))
