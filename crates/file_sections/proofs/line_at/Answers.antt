-- `file_sections::line_at`: the line before the first newline. Assumes nothing.
use mathlib.Core.Path.{sym, subst}
use Rattle.file_lines.specs.Grammar.{RightItem, line_of}
use Rattle.file_lines.proofs.Split.{leads_is, leads_none, leads_missing}
use Rattle.files.proofs.Items.{without_item}
use Rattle.file_sections.specs.Parts.{LineHere}
use Rattle.file_sections.proofs.line_at.Goals as goal

pub returns-in_err-k : goal.returns-in_err-k
returns-in_err-k c =
    let a = c.args in
    subst (LineHere a.heading a.bytes.now a.i a.out.now a.out.now) (sym c.from_residual.ensures) (leads_missing 10 (RightItem a.heading) (line_of a.heading) _ c.in_err-k.ensures)

pub returns-in_err-read_line : goal.returns-in_err-read_line
returns-in_err-read_line c =
    let a = c.args in
    subst (LineHere a.heading a.bytes.now a.i a.out.now c.read_line.new.out) (sym c.from_residual-in_err-read_line.ensures)
    (leads_none 10 (RightItem a.heading) (line_of a.heading) _ (λ x r. without_item a.heading x) _ c.in_ok-k.ensures c.in_err-read_line.ensures)

pub returns : goal.returns
returns c =
    let a = c.args in
    let read = c.in_ok-read_line.ensures in
    record { item = read.item; line = leads_is 10 (RightItem a.heading) (line_of a.heading) _ _ _ c.in_ok-k.ensures read.says; stored = read.stored }
