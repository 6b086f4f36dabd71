-- `fit_rows::steps_up_to`: one step more each turn, and what it leads from added. Assumes nothing.
use Rattle.sets.specs.Set.{set_of, Exactly}
use Rattle.fit_rows.specs.Rows.{Steps, StepsUpTo}
use Rattle.fit_rows.proofs.steps_up_to.Given as goal

abbrev pub invariant-loop : goal.invariant-loop
invariant-loop l =
    Exactly (set_of l.d) (Steps (set_of l.held) (set_of l.initial.r) l.counter) × Exactly (set_of l.r) (StepsUpTo (set_of l.held) (set_of l.initial.r) l.counter)
