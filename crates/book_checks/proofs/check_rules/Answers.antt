-- `book_checks::check_rules`: every rule passed is sound. Assumes nothing.
use mathlib.Core.Path.{subst}
use Prim.Native.Nat.{◌+◌}
use native.Mathlib.Omega.{arith}
use borrow.Author.Count.{below_more}
use Rattle.std.proofs.lemmas.Result.{err_from_is_err_and}
use Rattle.answers.specs.Told.{told}
use Rattle.rules.specs.declared.Rule.{Rule}
use Rattle.shapes.specs.Lent.{shape_of}
use Rattle.books.specs.Refused.{SoundRule, RuleRefused}
use Rattle.books.proofs.Tell.{first_rule}
use Rattle.book_checks.proofs.check_rules.Goals as goal

pub returns-in_err-check_rule : goal.returns-in_err-check_rule
returns-in_err-check_rule c =
    let p = err_from_is_err_and c.from_residual.result c.from_residual.ensures.1 in
    let j = c.loop-j.j in
    let bad = subst (λ (t : Rule). RuleRefused c.args.counts.now (shape_of c.args.blocks.now) (j + 1) t (told c.in_err-check_rule.field-0.0)) c.rule_at.ensures c.in_err-check_rule.ensures in
    rw (p.1, p.2) (_, first_rule _ _ c.args.rules.now j (omega arith) c.loop-j.invariant bad)

pub loop-j-preserved : goal.loop-j-preserved
loop-j-preserved c =
    below_more _ c.loop-j.j c.loop-j.invariant (subst (SoundRule c.args.counts.now (shape_of c.args.blocks.now)) c.rule_at.ensures c.in_ok-check_rule.ensures)

pub returns : goal.returns
returns c = record { each = λ i h. c.loop-j.invariant i (omega arith) }
