-- Document 01, "A book and its run": what the program prints for a file is the report of how the file ends, all of it
-- and nothing else.
use Rattle.std.specs.Prelude.{◌≡◌, List, ℕ}
use Rattle.file_reports.specs.Report.{Verdict, report_of}
use Rattle.file_runs.specs.Ends.{FileEnds}

pub record Printed (file bytes : List ℕ) : Type 0 where
  pub verdict : Verdict
  pub due : FileEnds file verdict
  pub whole : bytes ≡ report_of verdict
