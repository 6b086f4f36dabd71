-- `kinds::narrow`: what is refused is told, and all is as found. Assumes nothing.
use Rattle.std.proofs.Common.{refl}
use Rattle.std.proofs.lemmas.Result.{err_from_is_err_and}
use Rattle.kinds.proofs.narrow.Goals as goal

pub returns-in_err-check_narrow : goal.returns-in_err-check_narrow
returns-in_err-check_narrow c =
    let p = err_from_is_err_and c.from_residual.result c.from_residual.ensures.1 in
    rw (p.1, p.2) (c.in_err-check_narrow.ensures, record { work_kept = refl; first_kept = refl; second_kept = refl })
