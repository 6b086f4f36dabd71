-- `file_numerals::put_digits`: the digits from place i on stand, and those before are the digits of the rest. Assumes
-- nothing.
use native.Mathlib.Omega.{arith}
use lib.ListN.{length-set}
use Rattle.file_numerals.proofs.Written.{spelt_all, spelt_more, spelt_done}
use borrow.Author.Rules.{rules}
use Rattle.file_numerals.proofs.put_digits.Goals as goal

pub loop-i-init : goal.loop-i-init
loop-i-init c = (search rules, search rules, spelt_all _ _ _ _ _)

pub loop-i-preserved : goal.loop-i-preserved
loop-i-preserved c =
    let l = c.loop-i in
    (omega arith, simp length-set l.invariant.1, spelt_more _ _ _ l.i l.rest _ _ _ c.glyph.result (omega arith) c.glyph.ensures l.invariant.2)

pub returns : goal.returns
returns c = let l = c.loop-i in spelt_done _ _ _ l.i _ _ _ _ (omega arith) l.invariant.2
