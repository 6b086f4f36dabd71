-- `group_names::link_rule`: the first text with the second, and in a join with the third. Assumes nothing.
use mathlib.Core.Path.{refl}
use Rattle.groups.specs.Linked.{first, second, third}
use Rattle.group_names.specs.Names.{three}
use Rattle.group_names.proofs.link_rule.Goals as goal

pub link-requires-clause-text_number : goal.link-requires-clause-text_number
link-requires-clause-text_number c = c.requires.text_numbers.each _ (first refl)

pub link-requires-clause-text_number_2 : goal.link-requires-clause-text_number_2
link-requires-clause-text_number_2 c = c.requires.text_numbers.each _ (second refl)

pub link-requires-then-rule-eq-JOIN-clause-text_number : goal.link-requires-then-rule-eq-JOIN-clause-text_number
link-requires-then-rule-eq-JOIN-clause-text_number c = c.requires.text_numbers.each _ (first refl)

pub link-requires-then-rule-eq-JOIN-clause-text_number_2 : goal.link-requires-then-rule-eq-JOIN-clause-text_number_2
link-requires-then-rule-eq-JOIN-clause-text_number_2 c = c.requires.text_numbers.each _ (third c.if-rule-eq-JOIN.true refl)

pub returns-then-rule-eq-JOIN : goal.returns-then-rule-eq-JOIN
returns-then-rule-eq-JOIN c = three c.if-rule-eq-JOIN.true _ c.link.ensures c.link-then-rule-eq-JOIN.ensures
