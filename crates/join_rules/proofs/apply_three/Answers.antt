-- `join_rules::apply_three`: the three texts of the join are narrowed, and what comes of them is laid over their
-- places. Assumes nothing.
use borrow.Author.Rules.{rules}
use Rattle.plain.proofs.All.{all_of}
use Rattle.book_steps.proofs.Narrowed.{three_none, three_same, three_changed}
use Rattle.join_rules.proofs.apply_three.Goals as goal

pub returns-then-not-narrow_three : goal.returns-then-not-narrow_three
returns-then-not-narrow_three c =
    let none = c.narrow_three.ensures.none c.if-not-narrow_three.true in
    three_none c.requires.texts.standing c.args.rule c.requires.sound_rule.right c.requires.kind_value none.none

pub returns-then-lay_text : goal.returns-then-lay_text
returns-then-lay_text c =
    let first = c.lay_text-first.ensures in
    let second = c.lay_text-second.ensures in
    let third = c.lay_text.ensures in
    three_same c.requires.texts.standing c.args.rule c.requires.sound_rule.right c.requires.kind_value
    (c.narrow_three.ensures.all c.if-not-narrow_three.false) (all_of c.args.numbers.now 0 (λ i h. search rules))
    first.numbers_after first.tells second.numbers_after second.tells third.numbers_after third.tells c.if-lay_text.true

pub returns : goal.returns
returns c =
    let first = c.lay_text-first.ensures in
    let second = c.lay_text-second.ensures in
    let third = c.lay_text.ensures in
    three_changed c.requires.texts.standing c.args.rule c.requires.sound_rule.right c.requires.kind_value
    (c.narrow_three.ensures.all c.if-not-narrow_three.false) (all_of c.args.numbers.now 0 (λ i h. search rules))
    first.numbers_after first.tells second.numbers_after second.tells third.numbers_after third.tells c.if-lay_text.false
