-- `fit_rows::steps_up_to`: one step more each turn, and what it leads from added. Assumes nothing.
use mathlib.Core.Path.{◌≡◌, subst}
use native.Mathlib.Omega.{arith}
use Rattle.sets.specs.Set.{set_of, Exactly}
use Rattle.fit_rows.specs.Rows.{StepsUpTo}
use Rattle.fit_rows.proofs.Rows.{steps_none, steps_more, up_to_none, up_to_more}
use Rattle.fit_rows.proofs.steps_up_to.Goals as goal

pub loop-init : goal.loop-init
loop-init c = (steps_none _ _, up_to_none _ _)

pub loop-preserved : goal.loop-preserved
loop-preserved c =
    let l = c.loop in
    let next = steps_more _ _ _ l.invariant.0 c.step-d.ensures in
    (next, up_to_more _ _ _ l.invariant.1 next c.either-r.ensures)

pub returns : goal.returns
returns c =
    let l = c.loop in
    let a = c.args in
    let end : l.counter ≡ a.count = omega arith in
    subst (λ k. Exactly (set_of l.r) (StepsUpTo (set_of a.held) (set_of a.s) k)) end l.invariant.1
