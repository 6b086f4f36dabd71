-- `common_weighs::weigh_all`: one position after the other, each the least of those left. Assumes nothing.
use Rattle.sets.specs.Set.{set_of}
use Rattle.common_weighs.proofs.Weighing.{WeighedTo}
use Rattle.common_weighs.proofs.weigh_all.Given as goal

abbrev pub invariant-loop-base : goal.invariant-loop-base
invariant-loop-base l = WeighedTo l.both.y.now l.both.rows.now (set_of l.base) (set_of l.beside) (set_of l.initial.left) l.initial.g (set_of l.left) l.g

abbrev pub decreases-loop-base : goal.decreases-loop-base
decreases-loop-base l = set_of l.left
