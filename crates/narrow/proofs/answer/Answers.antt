-- `narrow::answer` hands on what `report_of` left at the start of the output: all of the report that is due. Assumes
-- nothing.
use Rattle.file_runs.proofs.Lent.{reported_front}
use Rattle.narrow.proofs.answer.Goals as goal

pub print-requires : goal.print-requires
print-requires c =
    let r = c.report_of-n.ensures in
    record { verdict = r.verdict; due = r.due; whole = reported_front r.reported }
