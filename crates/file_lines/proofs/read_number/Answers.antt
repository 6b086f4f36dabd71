-- `file_lines::read_number`: the number before the first blank. Assumes nothing.
use mathlib.Core.Path.{sym, subst}
use native.Mathlib.Omega.{arith}
use Rattle.file_numerals.specs.Digits.{decimal}
use Rattle.file_lines.specs.Grammar.{Writable}
use Rattle.file_lines.specs.Lines.{NumberRead}
use Rattle.file_lines.proofs.Split.{leads_is, leads_none, leads_missing}
use Rattle.file_lines.proofs.Read.{without_decimal}
use Rattle.file_lines.proofs.read_number.Goals as goal

pub returns-in_err-i : goal.returns-in_err-i
returns-in_err-i c = subst (NumberRead c.args.part.now) (sym c.from_residual.ensures) (leads_missing 32 Writable decimal _ c.in_err-i.ensures)

pub returns-in_err-n : goal.returns-in_err-n
returns-in_err-n c =
    subst (NumberRead c.args.part.now) (sym c.from_residual-in_err-n.ensures)
    (leads_none 32 Writable decimal _ (λ n h. without_decimal 32 n (omega arith)) _ c.in_ok-i.ensures c.in_err-n.ensures)

pub returns : goal.returns
returns c = leads_is 32 Writable decimal _ _ _ c.in_ok-i.ensures c.in_ok-n.ensures
