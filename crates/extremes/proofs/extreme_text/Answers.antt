-- `extremes::extreme_text`: the shape, the room, the text. Assumes nothing.
use mathlib.Core.Path.{refl}
use native.Mathlib.Omega.{arith}
use Rattle.std.proofs.lemmas.Result.{err_from_is_err_and}
use Rattle.answers.specs.Turns.{here, later}
use Rattle.answers.proofs.Turns.{lacks}
use Rattle.extremes.proofs.extreme_text.Goals as goal

pub returns-in_err-check_lent : goal.returns-in_err-check_lent
returns-in_err-check_lent c =
    let p = err_from_is_err_and c.from_residual.result c.from_residual.ensures.1 in
    rw (p.1, p.2) (here c.in_err-check_lent.ensures, refl)

pub returns-then-out-lt250 : goal.returns-then-out-lt250
returns-then-out-lt250 c = (later c.in_ok-check_lent.ensures (here (lacks (λ h. let z = c.if-out-lt250.true in omega arith))), refl)
