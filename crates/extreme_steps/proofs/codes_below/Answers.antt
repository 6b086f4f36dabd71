-- `extreme_steps::codes_below`: case by case, as the definition. Assumes nothing.
use mathlib.Core.Path.{sym, ap}
use Rattle.extreme_steps.specs.Code.{codes_below}
use Rattle.extreme_steps.proofs.codes_below.Goals as goal

pub returns-in-Above : goal.returns-in-Above
returns-in-Above c = sym (ap codes_below c.in-Above.is)
