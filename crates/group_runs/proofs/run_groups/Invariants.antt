-- `group_runs::run_groups`: after k turns the first k texts have their records. Assumes nothing.
use Rattle.group_runs.proofs.Turns.{UpTo}
use Rattle.group_runs.proofs.run_groups.Given as goal

abbrev pub invariant-loop-k : goal.invariant-loop-k
invariant-loop-k l = UpTo l.counts l.initial.blocks l.rules l.k l.blocks l.texts
