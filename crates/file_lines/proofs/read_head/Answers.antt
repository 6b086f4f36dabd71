-- `file_lines::read_head`: the word, then the number, then its limit. Assumes nothing.
use mathlib.Core.Path.{◌≡◌, sym, ◌∙◌, subst}
use native.Mathlib.Omega.{arith}
use borrow.Author.Rules.{rules}
use lib.ListN.{length, take}
use Rattle.file_numerals.proofs.Digits.{decimal_one}
use Rattle.file_lines.specs.Lines.{HeadRead}
use Rattle.file_lines.proofs.Read.{head_is, head_front, head_rest}
use Rattle.file_lines.proofs.read_head.Goals as goal

pub returns-in_err-strip_prefix : goal.returns-in_err-strip_prefix
returns-in_err-strip_prefix c =
    let other : take (length c.args.word.now) c.args.line.now ≡ c.args.word.now → ⊥ = search rules in
    subst (HeadRead c.args.word.now c.args.most c.args.line.now) (sym c.from_residual.ensures) (λ n h e. other (head_front _ _ n e))

pub returns-in_err-n : goal.returns-in_err-n
returns-in_err-n c =
    let rest = c.in_ok-strip_prefix.ensures.cases.1 in
    subst (HeadRead c.args.word.now c.args.most c.args.line.now) (sym c.from_residual-in_err-n.ensures)
    (λ n h e. c.in_err-n.ensures n (omega arith) (rest ∙ head_rest _ _ n e))

pub returns-then-n-most : goal.returns-then-n-most
returns-then-n-most c =
    let front : take (length c.args.word.now) c.args.line.now ≡ c.args.word.now = search rules in
    let rest = c.in_ok-strip_prefix.ensures.cases.1 in
    (c.if-n-most.true, head_is _ _ _ front (sym rest ∙ c.in_ok-n.ensures.1))

pub returns-else-n-most : goal.returns-else-n-most
returns-else-n-most c =
    let rest = c.in_ok-strip_prefix.ensures.cases.1 in
    λ n h e. let same : c.in_ok-n.n ≡ n = decimal_one _ n (sym c.in_ok-n.ensures.1 ∙ rest ∙ head_rest _ _ n e) in let over = c.if-n-most.false in omega arith
