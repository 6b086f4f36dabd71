-- `extreme_steps::codes_onward`: by whether something is taken. Assumes nothing.
use mathlib.Core.Path.{◌∙◌}
use Rattle.extreme_steps.proofs.Steps.{on_taking_lem}
use Rattle.extreme_steps.proofs.codes_onward.Goals as goal

pub returns-else-k-eq0 : goal.returns-else-k-eq0
returns-else-k-eq0 c = c.codes_below.ensures ∙ on_taking_lem _ _ _ c.if-k-eq0.false
