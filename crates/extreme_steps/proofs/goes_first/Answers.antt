-- `extreme_steps::goes_first_lem`: the codes below the successor tell. Assumes nothing.
use mathlib.Core.Path.{sym, ap, ◌∙◌}
use Prim.Native.Nat.{ℕ}
use lib.Dec.{leb, ltb}
use Rattle.extreme_steps.specs.declared.Direction.{Direction}
use Rattle.extreme_steps.specs.Steps.{goes_first}
use Rattle.extreme_steps.proofs.Steps.{goes_least, goes_greatest}
use Rattle.extreme_steps.proofs.goes_first.Goals as goal

pub returns-in-Least : goal.returns-in-Least
returns-in-Least c =
    let a = c.args in
    λ s e. ap (ltb a.c) e ∙ goes_least a.c s ∙ sym (ap (λ (d : Direction). goes_first d a.c s) c.in-Least.is)

pub returns-in-Greatest : goal.returns-in-Greatest
returns-in-Greatest c =
    let a = c.args in
    λ s e. ap (λ (n : ℕ). leb n a.c) e ∙ goes_greatest a.c s ∙ sym (ap (λ (d : Direction). goes_first d a.c s) c.in-Greatest.is)
