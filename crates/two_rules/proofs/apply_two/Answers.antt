-- `two_rules::apply_two`: the two texts of the rule are narrowed, and what comes of them is laid over their places.
-- Assumes nothing.
use mathlib.Core.Path.{◌≡◌, ◌∙◌}
use native.Mathlib.Omega.{arith}
use borrow.Author.Rules.{rules}
use Rattle.texts.specs.Kind.{join_kind}
use Rattle.kinds.specs.Relation.{kind_of}
use Rattle.kinds.specs.declared.Relation.{Relation}
use Rattle.kinds.specs.declared.Relation.TheVariants.{Padded, AtMost, Before, Exact, AnyCase}
use Rattle.plain.proofs.All.{all_of}
use Rattle.book_steps.proofs.Narrowed.{two_none, two_same, two_changed}
use Rattle.two_rules.proofs.apply_two.Goals as goal

-- no relation's kind is that of a join
no_join : (r : Relation) → kind_of r ≡ join_kind → ⊥
no_join Padded e = omega arith
no_join AtMost e = omega arith
no_join Before e = omega arith
no_join Exact e = omega arith
no_join AnyCase e = omega arith

pub returns-then-not-narrow_two : goal.returns-then-not-narrow_two
returns-then-not-narrow_two c =
    let none = c.narrow_two.ensures.neither c.if-not-narrow_two.true in
    two_none c.requires.texts.standing c.args.rule c.requires.right_rule (λ e. no_join c.args.relation (c.requires.kind ∙ e)) none.none

pub returns-then-lay_text : goal.returns-then-lay_text
returns-then-lay_text c =
    let a = c.lay_text-first.ensures in
    let b = c.lay_text.ensures in
    two_same c.requires.texts.standing c.args.rule c.requires.right_rule (λ e. no_join c.args.relation (c.requires.kind ∙ e))
    (c.narrow_two.ensures.both c.if-not-narrow_two.false) (all_of c.args.numbers.now 0 (λ i h. search rules))
    a.numbers_after a.tells b.numbers_after b.tells c.if-lay_text.true

pub returns : goal.returns
returns c =
    let a = c.lay_text-first.ensures in
    let b = c.lay_text.ensures in
    two_changed c.requires.texts.standing c.args.rule c.requires.right_rule (λ e. no_join c.args.relation (c.requires.kind ∙ e))
    (c.narrow_two.ensures.both c.if-not-narrow_two.false) (all_of c.args.numbers.now 0 (λ i h. search rules))
    a.numbers_after a.tells b.numbers_after b.tells c.if-lay_text.false
