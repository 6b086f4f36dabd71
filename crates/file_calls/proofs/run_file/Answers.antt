-- `file_calls::run_file`: its own work buffer has 63,001 bytes. Assumes nothing.
use mathlib.Core.Path.{ap, ◌∙◌, subst}
use Prim.Native.Nat.{ℕ}
use lib.ListN.{length, length-replicate}
use Rattle.file_runs.specs.Promise.{FileAnswer}
use Rattle.file_calls.proofs.run_file.Goals as goal

pub returns : goal.returns
returns c =
    let ran = c.run_lent in
    let size = ap length c.new_work-work.ensures ∙ length-replicate {A = ℕ} 63001 0 in
    let args = c.args in
    subst (λ (k : ℕ). FileAnswer args.file.now k args.report.now ran.new.report ran.result) size ran.ensures.0
