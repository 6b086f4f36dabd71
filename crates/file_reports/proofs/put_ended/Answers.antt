-- `file_reports::put_ended`: the word of the end, its count and the newline. Assumes nothing.
use mathlib.Core.Path.{sym, ap}
use mathlib.Core.List.{[], ◌∷◌}
use native.Mathlib.Omega.{arith}
use Rattle.answers.specs.declared.Ended.{Ended}
use Rattle.file_lines.specs.Grammar.{joined}
use Rattle.file_reports.specs.Report.{ended_line}
use Rattle.file_reports.proofs.Put.{put_as}
use Rattle.file_reports.proofs.put_ended.Goals as goal

pub returns-in-Stable : goal.returns-in-Stable
unfolding ended_line
returns-in-Stable c =
    let p = c.put_head.ensures in
    let most = p.upper_bound in
    let told = c.in-Stable.is in
    record {
      wrote = put_as _ _ _ _ _ _ (ap (λ (e : Ended). joined (ended_line e ∷ [])) (sym told)) p.wrote;
      upper_bound = omega arith;
    }

pub returns-in-None : goal.returns-in-None
unfolding ended_line
returns-in-None c =
    let p = c.put_head-in-None.ensures in
    let most = p.upper_bound in
    let told = c.in-None.is in
    record {
      wrote = put_as _ _ _ _ _ _ (ap (λ (e : Ended). joined (ended_line e ∷ [])) (sym told)) p.wrote;
      upper_bound = omega arith;
    }
