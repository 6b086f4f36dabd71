-- `file_reports::put_sheet`: four parts, one after the other. Assumes nothing.
use mathlib.Core.Path.{refl, sym}
use native.Mathlib.Omega.{arith}
use Rattle.shapes.proofs.Lent.{shape_length}
use Rattle.file_lines.specs.Book.{sheet_of}
use Rattle.file_reports.proofs.Put.{sheet_put}
use Rattle.file_reports.proofs.put_sheet.Goals as goal

pub returns : goal.returns
returns c =
    let a = c.args in
    let one = c.put_head-a in
    let two = c.put_counts-b in
    let three = c.put_heading-c in
    let four = c.put_blocks in
    let m₁ = one.ensures.upper_bound in
    let m₂ = two.ensures.upper_bound in
    let m₃ = three.ensures.upper_bound in
    let m₄ = four.ensures.upper_bound in
    record {
      wrote = sheet_put (sheet_of a.width a.counts.now a.blocks.now) _ _ a.out.now a.at _ _ _ _ _ _ _ _ refl (sym (shape_length a.blocks.now)) one.ensures.wrote two.ensures.wrote three.ensures.wrote four.ensures.wrote;
      upper_bound = omega arith;
    }
