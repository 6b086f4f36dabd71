-- `file_sections::head_at`: a section's count before the first newline. Assumes nothing.
use mathlib.Core.Path.{sym, subst}
use Prim.Native.Nat.{ℕ, ◌≤◌}
use Rattle.file_lines.specs.Grammar.{head_line, word_of}
use Rattle.file_lines.proofs.Split.{leads_is, leads_none, leads_missing}
use Rattle.files.proofs.Items.{without_head}
use Rattle.file_sections.specs.Parts.{HeadAt}
use Rattle.file_sections.proofs.head_at.Goals as goal

pub returns-in_err-i : goal.returns-in_err-i
returns-in_err-i c =
    let a = c.args in
    subst (HeadAt a.heading a.most a.bytes.now) (sym c.from_residual.ensures)
    (leads_missing 10 (λ (n : ℕ). n ≤ a.most) (head_line (word_of a.heading)) a.bytes.now c.in_err-i.ensures)

pub returns-in_err-n : goal.returns-in_err-n
returns-in_err-n c =
    let a = c.args in
    subst (HeadAt a.heading a.most a.bytes.now) (sym c.from_residual-in_err-n.ensures)
    (leads_none 10 (λ (n : ℕ). n ≤ a.most) (head_line (word_of a.heading)) a.bytes.now (λ n h. without_head a.heading n) _ c.in_ok-i.ensures c.in_err-n.ensures)

pub returns : goal.returns
returns c = let a = c.args in leads_is 10 (λ (n : ℕ). n ≤ a.most) (head_line (word_of a.heading)) a.bytes.now _ _ c.in_ok-i.ensures c.in_ok-n.ensures
