-- `sweep_places::later`, by the order of places. Assumes nothing.
use mathlib.Core.Path.{sym, ◌∙◌}
use Rattle.sweep_steps.specs.Places.{later}
use Rattle.sweep_steps.proofs.Order.{in_order}
use Rattle.sweep_places.proofs.later.Goals as goal

pub returns-then-lt : goal.returns-then-lt
returns-then-lt c = unfold later in simp (sym (in_order c.args.p c.args.q) ∙ sym c.lt.ensures ∙ c.if-lt.true)

pub returns : goal.returns
returns c = unfold later in simp (sym (in_order c.args.p c.args.q) ∙ sym c.lt.ensures ∙ c.if-lt.false)
