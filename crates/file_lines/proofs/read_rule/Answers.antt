-- `file_lines::read_rule`: two numbers with a blank after each, then two more. Assumes nothing.
use mathlib.Core.Path.{sym, subst}
use native.Mathlib.Omega.{arith}
use Rattle.file_lines.specs.Grammar.{rule_line}
use Rattle.file_lines.specs.Lines.{RuleRead}
use Rattle.file_lines.proofs.Read.{number_rest, rule_within, rule_rest, rule_is}
use Rattle.file_lines.proofs.read_rule.Goals as goal

pub overflow_add-rest : goal.overflow_add-rest
overflow_add-rest c = let h = rule_within _ _ _ _ _ c.in_ok-kind.ensures c.in_ok-a.ensures in omega arith

pub slice_bounds-read_two-count : goal.slice_bounds-read_two-count
slice_bounds-read_two-count c = rule_within _ _ _ _ _ c.in_ok-kind.ensures c.in_ok-a.ensures

pub returns-in_err-kind : goal.returns-in_err-kind
unfolding rule_line
returns-in_err-kind c = subst (RuleRead c.args.line.now) (sym c.from_residual.ensures) (λ r h e. c.in_err-kind.ensures r.kind _ h.kind e)

pub returns-in_err-a : goal.returns-in_err-a
unfolding rule_line
returns-in_err-a c =
    subst (RuleRead c.args.line.now) (sym c.from_residual-in_err-a.ensures) (λ r h e. c.in_err-a.ensures r.a _ h.a (number_rest _ _ _ c.in_ok-kind.ensures r.kind _ e))

pub returns-in_err-b : goal.returns-in_err-b
returns-in_err-b c =
    subst (RuleRead c.args.line.now) (sym c.from_residual-in_err-b.ensures)
    (λ r h e. c.in_err-b.ensures r.b r.c h.b h.c (rule_rest _ _ _ _ _ c.in_ok-kind.ensures c.in_ok-a.ensures r e))

pub returns : goal.returns
returns c =
    let f = c.in_ok-kind.ensures in
    let s = c.in_ok-a.ensures in
    let two = c.in_ok-b.ensures in
    (record { kind = f.right; a = s.right; b = two.0; c = two.1 }, rule_is _ _ _ _ _ f s _ _ two.2)
