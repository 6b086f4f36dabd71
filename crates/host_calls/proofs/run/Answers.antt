-- `host_calls::run`: the number of what the run answers. Assumes nothing.
use mathlib.Core.Path.{ap, ◌∙◌}
use Prim.Native.Nat.{ℕ, ◌≤◌}
use native.Mathlib.Omega.{arith}
use lib.IntN.{pos, neg_ℤ}
use Rattle.std.specs.Prelude.{Ok, Err}
use Rattle.answers.proofs.Told.{numbered}
use Rattle.file_lines.specs.Book.{file_limit}
use Rattle.host_calls.proofs.Signed.{fits, positive, difference_fits, negative}
use Rattle.host_calls.proofs.run.Goals as goal
use Rattle.host_calls.proofs.run.Goals.{After-number, In-Ok}

-- a report is short
short : (c : In-Ok) → c.in-Ok.n ≤ file_limit
short c = c.in-Ok.ensures.0.written.report.reported.short

-- and so is a refusal's number
few : (c : After-number) → c.number.result ≤ file_limit
few c = let e = c.number.ensures in let h = (numbered c.in-Err.r).1 in omega arith

pub overflow_cast-result : goal.overflow_cast-result
overflow_cast-result c = fits _ (short c)

pub overflow_cast-result-in-Err : goal.overflow_cast-result-in-Err
overflow_cast-result-in-Err c = fits _ (few c)

pub overflow_sub-result : goal.overflow_sub-result
overflow_sub-result c = difference_fits _ (few c)

pub returns-in-Ok : goal.returns-in-Ok
returns-in-Ok c = record { answer = Ok c.in-Ok.n; runs = c.in-Ok.ensures; number = positive _ (short (goal.at.returns-in-Ok c).In-Ok) }

pub returns-in-Err : goal.returns-in-Err
returns-in-Err c =
    record {
      answer = Err c.in-Err.r;
      runs = c.in-Err.ensures;
      number = negative _ (few (goal.at.returns-in-Err c).After-number) ∙ ap (λ (k : ℕ). neg_ℤ (pos k)) c.number.ensures;
    }
