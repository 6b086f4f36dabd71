-- `narrow::report_of`: the report of the file's book, or the line of its refusal, by the promise of `dashed::run_file`.
-- Assumes nothing.
use Rattle.file_runs.proofs.Determined.{text_report, refused_report}
use Rattle.narrow.proofs.report_of.Goals as goal

pub returns-in-Ok : goal.returns-in-Ok
returns-in-Ok c = text_report c.in-Ok.ensures

-- the refusal left the output as on entry, and its line was written there
pub returns-in-Err : goal.returns-in-Err
returns-in-Err c =
    let says = c.in-Err.ensures in
    refused_report c.requires says.0 says.1 c.write_refused.ensures
