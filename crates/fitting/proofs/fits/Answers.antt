-- `fitting::fits`: the shape first, then the text. Assumes nothing.
use native.Mathlib.Omega.{arith}
use Rattle.std.proofs.lemmas.Result.{err_from_is_err_and}
use Rattle.shapes.proofs.Fits.{fits_length}
use Rattle.fitting.proofs.fits.Goals as goal
use Rattle.fitting.proofs.fits.Goals.{else-text-le250-via-then-text-le250+else-fits_blocks, else-text-le250-via-else-text-le250}

pub returns-in_err-check_lent : goal.returns-in_err-check_lent
returns-in_err-check_lent c =
    let p = err_from_is_err_and c.from_residual.result c.from_residual.ensures.1 in
    rw (p.1, p.2) c.in_err-check_lent.ensures

pub returns : goal.returns
returns c =
    let short = c.in_ok-check_lent.ensures.short in (
      c.in_ok-check_lent.ensures,
      elim c.else-text-le250.branch [
        | else-text-le250-via-then-text-le250+else-fits_blocks w ↦ w.fits_blocks.ensures.not_so w.if-fits_blocks.false
        | else-text-le250-via-else-text-le250 w ↦ λ f. let long = w.if-text-le250.false in let h = fits_length f in omega arith
      ],
    )
