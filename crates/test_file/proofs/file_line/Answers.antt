-- `test_file::file_line` is safe: the report's length is within the output, by the promise of `dashed::run_file`.
use mathlib.Core.Path.{sym, subst}
use Prim.Native.Nat.{◌≤◌}
use native.Mathlib.Omega.{arith}
use lib.ListN.{length}
use lib.Seq.{length-take-le}
use Rattle.dashed.specs.Promises.{RunFile}
use Rattle.test_file.proofs.file_line.Goals as goal
use Rattle.test_file.proofs.file_line.Goals.{In-Ok}

-- the report lies within the output
within : (c : In-Ok) → c.in-Ok.n ≤ length c.run_file.new.report
within c =
    let q = c in
    let says = subst (RunFile _ _ _) c.in-Ok.is q.run_file.ensures in
    let room = says.written.room in
    let short = says.written.report.reported.short in
    let kept = q.run_file.auto.report in
    omega arith

pub slice_bounds-report_shown-end : goal.slice_bounds-report_shown-end
slice_bounds-report_shown-end c = within c

pub slice_bounds-report_shown-end-in-Ok : goal.slice_bounds-report_shown-end-in-Ok
slice_bounds-report_shown-end-in-Ok c = sym (length-take-le _ _ (within c))
