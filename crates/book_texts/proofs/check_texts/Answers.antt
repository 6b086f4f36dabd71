-- `book_texts::check_texts`: every text passed is sound. Assumes nothing.
use native.Mathlib.Omega.{arith}
use Rattle.std.proofs.lemmas.Result.{err_from_is_err_and}
use Rattle.books.proofs.Tell.{none_before, one_more_text, first_text, all_texts}
use Rattle.book_texts.proofs.check_texts.Goals as goal

pub loop-k-init : goal.loop-k-init
loop-k-init c = none_before _ _

pub returns-in_err-check_text : goal.returns-in_err-check_text
returns-in_err-check_text c =
    let p = err_from_is_err_and c.from_residual.result c.from_residual.ensures.1 in
    rw (p.1, p.2) (_, first_text _ _ c.loop-k.k (record { from_one = omega arith; within = omega arith }) c.loop-k.invariant c.in_err-check_text.ensures)

pub loop-k-preserved : goal.loop-k-preserved
loop-k-preserved c =
    let s = c.in_ok-check_text.ensures in
    one_more_text _ _ c.loop-k.k c.loop-k.invariant (record { sound = s.0; short = s.1 })

pub returns : goal.returns
returns c = all_texts _ _ c.loop-k.k (omega arith) c.loop-k.invariant
