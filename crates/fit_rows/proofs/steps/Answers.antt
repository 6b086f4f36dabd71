-- `fit_rows::steps`: one step more each turn. Assumes nothing.
use mathlib.Core.Path.{◌≡◌, subst}
use native.Mathlib.Omega.{arith}
use Rattle.sets.specs.Set.{set_of, Exactly}
use Rattle.fit_rows.specs.Rows.{Steps}
use Rattle.fit_rows.proofs.Rows.{steps_none, steps_more}
use Rattle.fit_rows.proofs.steps.Goals as goal

pub loop-init : goal.loop-init
loop-init c = steps_none _ _

pub loop-preserved : goal.loop-preserved
loop-preserved c = steps_more _ _ _ c.loop.invariant c.step-r.ensures

pub returns : goal.returns
returns c =
    let l = c.loop in
    let a = c.args in
    let end : l.counter ≡ a.count = omega arith in
    subst (λ k. Exactly (set_of l.r) (Steps (set_of a.held) (set_of a.s) k)) end l.invariant
