-- `find_calls::find`: the refusals, the empty mark, then the search. Assumes nothing.
use mathlib.Core.Path.{◌≡◌, sym}
use native.Mathlib.Omega.{arith}
use borrow.Author.Tests.{eqb-true, eqb-false}
use lib.ListN.{length}
use Rattle.std.proofs.lemmas.Result.{err_from_is_err_and}
use Rattle.answers.specs.Turns.{here, later}
use Rattle.answers.proofs.Turns.{lacks}
use Rattle.find_calls.proofs.Answer.{empty_in_all}
use Rattle.find_calls.proofs.find.Goals as goal

pub returns-in_err-check_lent : goal.returns-in_err-check_lent
returns-in_err-check_lent c =
    let p = err_from_is_err_and c.from_residual.result c.from_residual.ensures.1 in
    rw (p.1, p.2) (here c.in_err-check_lent.ensures)

pub returns-then-mark-gt64 : goal.returns-then-mark-gt64
returns-then-mark-gt64 c = later c.in_ok-check_lent.ensures (here (lacks (λ h. omega arith)))

pub returns-then-is_empty : goal.returns-then-is_empty
returns-then-is_empty c =
    let a = c.in_ok-check_lent.ensures in
    let none : length c.args.mark.now ≡ 0 = eqb-true _ _ (sym c.if-is_empty.ensures) in
    let i = c.index_of-start.ensures in
    (record { accepted = a; few = omega arith }, empty_in_all c.args.mark.now none a.sound (omega arith) (omega arith))

pub seek-requires : goal.seek-requires
seek-requires c = let some = eqb-false _ _ (sym c.if-is_empty.ensures) in (c.in_ok-check_lent.ensures, record { some = omega arith; few = omega arith })

pub returns : goal.returns
returns c = (record { accepted = c.in_ok-check_lent.ensures; few = omega arith }, c.seek.ensures)
