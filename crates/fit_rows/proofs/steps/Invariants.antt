-- `fit_rows::steps`: one step more each turn. Assumes nothing.
use Rattle.sets.specs.Set.{set_of, Exactly}
use Rattle.fit_rows.specs.Rows.{Steps}
use Rattle.fit_rows.proofs.steps.Given as goal

abbrev pub invariant-loop : goal.invariant-loop
invariant-loop l = Exactly (set_of l.r) (Steps (set_of l.held) (set_of l.initial.r) l.counter)
