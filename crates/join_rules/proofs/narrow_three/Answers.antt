-- `join_rules::narrow_three`: the three texts are accepted shapes that can be joined, so narrowing does not refuse
-- them. Assumes nothing.
use Rattle.book_steps.proofs.Narrowed.{three_accepted}
use Rattle.join_rules.proofs.narrow_three.Goals as goal

pub narrow_accepted-requires-clause-join_accepted : goal.narrow_accepted-requires-clause-join_accepted
narrow_accepted-requires-clause-join_accepted c =
    let texts = c.requires.texts in
    let sound = c.requires.sound_rule in
    let ok = three_accepted texts.standing c.args.rule sound.right c.requires.kind_value texts.each sound.joinable in
    rw (c.text.ensures.numbers, c.text-2.ensures.numbers, c.text-3.ensures.numbers) ok
