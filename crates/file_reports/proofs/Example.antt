-- Document 01's example of a report, with the head of document 02, order 11, byte by byte. Assumes nothing.
use mathlib.Core.Path.{◌≡◌, refl}
use mathlib.Core.List.{List, [], ◌∷◌}
use Prim.Native.Nat.{ℕ}
use Rattle.file_numerals.specs.Digits.{glyph, digits, decimal_by, decimal}
use Rattle.answers.specs.declared.Ended.TheVariants.{Stable as is-stable}
use Rattle.shapes.specs.Shape.{Block}
use Rattle.file_lines.specs.Grammar.{head_line, two_numbers, block_line, joined, part_lines, lines_of, writing}
use Rattle.file_lines.specs.declared.Width.TheVariants.{Low}
use Rattle.file_lines.specs.Book.{sheet_parts}
use Rattle.file_reports.specs.Report.{Verdict, ended_line, group_line, head_of, sheet_after, report_of}
use Rattle.file_reports.specs.Report.Verdict.{ran}

block : Block
block = record { base = 0x0000000c000000000000000000000000; lower = 2; upper = 2 }

pub example_verdict : Verdict
unfolding block
example_verdict = ran (record { group = 1; ended = is-stable 2 } ∷ []) (record { width = Low; counts = 1 ∷ 1 ∷ []; blocks = block ∷ block ∷ [] })

pub example_report : List ℕ
example_report =
    71 ∷ 82 ∷ 79 ∷ 85 ∷ 80 ∷ 32 ∷ 49 ∷ 32 ∷ 83 ∷ 84 ∷ 65 ∷ 66 ∷ 76 ∷ 69 ∷ 32 ∷ 50 ∷ 10 ∷ 84 ∷ 69 ∷ 88 ∷ 84 ∷ 83 ∷ 32 ∷ 50 ∷ 10 ∷ 49 ∷ 10 ∷ 49 ∷ 10 ∷ 66 ∷ 76 ∷ 79 ∷ 67 ∷ 75 ∷ 83 ∷ 32 ∷ 50 ∷ 10 ∷ 48 ∷ 48 ∷ 48 ∷ 48 ∷ 48 ∷ 48 ∷ 48 ∷ 99 ∷ 48 ∷ 48 ∷ 48 ∷ 48 ∷ 48 ∷ 48 ∷ 48 ∷ 48 ∷ 48 ∷ 48 ∷ 48 ∷ 48 ∷ 48 ∷ 48 ∷ 48 ∷ 48 ∷ 48 ∷ 48 ∷ 48 ∷ 48 ∷ 48 ∷ 48 ∷ 48 ∷ 48 ∷ 32 ∷ 50 ∷ 32 ∷ 50 ∷ 10 ∷ 48 ∷ 48 ∷ 48 ∷ 48 ∷ 48 ∷ 48 ∷ 48 ∷ 99 ∷ 48 ∷ 48 ∷ 48 ∷ 48 ∷ 48 ∷ 48 ∷ 48 ∷ 48 ∷ 48 ∷ 48 ∷ 48 ∷ 48 ∷ 48 ∷ 48 ∷ 48 ∷ 48 ∷ 48 ∷ 48 ∷ 48 ∷ 48 ∷ 48 ∷ 48 ∷ 48 ∷ 48 ∷ 32 ∷ 50 ∷ 32 ∷ 50 ∷ 10 ∷ []

pub example : report_of example_verdict ≡ example_report
unfolding example_verdict example_report report_of head_of group_line ended_line sheet_after sheet_parts writing lines_of part_lines joined head_line two_numbers block_line decimal decimal_by digits glyph
example = refl
