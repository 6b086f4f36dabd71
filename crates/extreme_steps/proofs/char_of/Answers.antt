-- `extreme_steps::char_of`: the least or the greatest, as asked. Assumes nothing.
use mathlib.Core.Path.{sym, ap, ◌∙◌}
use Rattle.bases.proofs.Laws.{least_one, least_of_lem, greatest_one, greatest_of_lem}
use Rattle.sets.specs.Set.{set_of}
use Rattle.extreme_steps.specs.declared.Direction.{Direction}
use Rattle.extreme_steps.specs.Steps.{char_of}
use Rattle.extreme_steps.proofs.char_of.Goals as goal

pub returns-in-Least : goal.returns-in-Least
returns-in-Least c =
    let s = c in
    least_one c.first.ensures.0 (least_of_lem _ s.requires.base_bound s.requires.fact) ∙ sym (ap (λ (d : Direction). char_of d (set_of s.args.base)) c.in-Least.is)

pub returns-in-Greatest : goal.returns-in-Greatest
returns-in-Greatest c =
    let s = c in
    greatest_one c.last.ensures.0 (greatest_of_lem _ s.requires.base_bound s.requires.fact) ∙ sym (ap (λ (d : Direction). char_of d (set_of s.args.base)) c.in-Greatest.is)
