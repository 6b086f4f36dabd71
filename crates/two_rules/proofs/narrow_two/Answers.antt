-- `two_rules::narrow_two`: the two texts are accepted shapes, so narrowing does not refuse them. Assumes nothing.
use mathlib.Core.Path.{sym, subst}
use Rattle.shapes.specs.Lent.{Accepted}
use Rattle.book_steps.proofs.Standing.{text_accepted}
use Rattle.two_rules.proofs.narrow_two.Goals as goal

pub narrow_accepted-requires-clause-pair_accepted : goal.narrow_accepted-requires-clause-pair_accepted
narrow_accepted-requires-clause-pair_accepted c =
    let texts = c.requires.texts in
    let right = c.requires.right_rule in
    record {
      first = subst Accepted (sym c.text.ensures.numbers) (text_accepted texts.standing texts.each _ right.first);
      second = subst Accepted (sym c.text-2.ensures.numbers) (text_accepted texts.standing texts.each _ right.second);
    }
