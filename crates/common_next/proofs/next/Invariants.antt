-- `common_next::next`: block after block, but for those that the text so far does not lead to. Assumes nothing.
use Rattle.sets.specs.Set.{set_of}
use Rattle.common_weighs.specs.Code.{ChosenTo}
use Rattle.common_next.proofs.next.Given as goal

abbrev pub invariant-loop-a : goal.invariant-loop-a
invariant-loop-a l = ChosenTo l.both.x.now l.both.y.now l.a (set_of l.own) (set_of l.other) l.g
