-- `file_lines::read_two`: a number and a blank, and a number after them. Assumes nothing.
use mathlib.Core.Path.{sym, subst}
use Rattle.file_numerals.specs.Digits.{decimal}
use Rattle.file_lines.specs.Grammar.{two_numbers}
use Rattle.file_lines.specs.Lines.{TwoRead}
use Rattle.file_lines.proofs.Read.{number_rest, number_is}
use Rattle.file_lines.proofs.read_two.Goals as goal

pub returns-in_err-a : goal.returns-in_err-a
unfolding two_numbers
returns-in_err-a c = subst (TwoRead c.args.part.now) (sym c.from_residual.ensures) (λ a b h g e. c.in_err-a.ensures a (decimal b) h e)

pub returns-in_err-b : goal.returns-in_err-b
unfolding two_numbers
returns-in_err-b c =
    subst (TwoRead c.args.part.now) (sym c.from_residual-in_err-b.ensures) (λ a b h g e. c.in_err-b.ensures b g (number_rest _ _ _ c.in_ok-a.ensures a (decimal b) e))

pub returns : goal.returns
unfolding two_numbers
returns c = (c.in_ok-a.ensures.right, c.in_ok-b.ensures.0, number_is _ _ _ c.in_ok-a.ensures _ c.in_ok-b.ensures.1)
