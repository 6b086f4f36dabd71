-- `file_numerals::places`: k digits are counted, the last of them that of the rest, which has its own. Assumes nothing.
use mathlib.Core.Path.{◌≡◌, ap}
use native.Mathlib.Omega.{arith}
use lib.ListN.{length}
use Rattle.file_numerals.specs.Digits.{decimal}
use Rattle.file_numerals.proofs.Digits.{tenth_length, decimal_digit, decimal_few}
use Rattle.file_numerals.proofs.places.Goals as goal

pub overflow_add-k : goal.overflow_add-k
overflow_add-k c = let few = decimal_few c.args.n 20 (omega arith) (omega arith) in omega arith

pub loop-rest-smaller : goal.loop-rest-smaller
loop-rest-smaller c = let h = c.loop-rest-test.true in omega arith

pub loop-rest-preserved : goal.loop-rest-preserved
loop-rest-preserved c = let e = tenth_length c.loop-rest.rest c.loop-rest-test.true in let i = c.loop-rest.invariant in omega arith

pub returns : goal.returns
returns c =
    let h = c.loop-rest-test.false in
    let e : length (decimal c.loop-rest.rest) ≡ 1 = ap length (decimal_digit c.loop-rest.rest (omega arith)) in
    let i = c.loop-rest.invariant in
    omega arith
