-- `row_steps::give_word`: the sets before j have what is given; from j on they are as they were. Assumes nothing.
use Rattle.sets.specs.Set.{set_of}
use Rattle.rows.specs.Row.{slot_in}
use Rattle.row_steps.proofs.Steps.{Giving}
use Rattle.row_steps.proofs.give_word.Given as goal

abbrev pub invariant-loop-j : goal.invariant-loop-j
invariant-loop-j l = Giving (slot_in l.layout) l.row (set_of l.base) l.initial.given l.given l.j
