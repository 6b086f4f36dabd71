-- `file_runs::refuse_short`: the check of the book, and 5 where it is accepted. Assumes nothing.
use native.Mathlib.Omega.{arith}
use Rattle.answers.specs.Turns.{here, later}
use Rattle.answers.proofs.Turns.{lacks}
use Rattle.file_runs.proofs.refuse_short.Goals as goal

pub returns-in-Err : goal.returns-in-Err
returns-in-Err c = here c.in-Err.ensures

pub returns-in-Ok : goal.returns-in-Ok
returns-in-Ok c = let pre = c.requires in later c.in-Ok.ensures (here (lacks (λ h. omega arith)))
