-- `file_reports::write_ran`: the groups and the sheet. Assumes nothing.
use native.Mathlib.Omega.{arith}
use lib.ListN.{length-take}
use Rattle.answers.specs.declared.TextRan.{TextRan}
use Rattle.file_lines.specs.Book.{sheet_of}
use Rattle.file_reports.specs.Report.{head_of, sheet_after, report_of}
use Rattle.file_reports.specs.Report.Verdict.{ran}
use Rattle.file_reports.proofs.Put.{put_then, reported}
use Rattle.file_reports.proofs.write_ran.Goals as goal

pub returns : goal.returns
unfolding report_of head_of sheet_after
returns c =
    let s = c in
    let a = s.args in
    let one = c.put_groups-head in
    let two = c.put_sheet in
    let room = s.requires.file_limit_in_bounds in
    let texts = s.requires.counts_len_bound in
    let blocks = s.requires.blocks_bound in
    let m₁ = one.ensures.upper_bound in
    let m₂ = two.ensures.upper_bound in
    let put = one.ensures.groups_put in
    record {
      groups = put.groups;
      listed = put.listed;
      reported = reported (ran put.groups (sheet_of a.width a.counts.now a.blocks.now)) _ _ _ room (omega (arith, length-take {A = TextRan}))
          (put_then a.out.now 0 _ _ _ _ _ _ put.wrote two.ensures.wrote);
    }
