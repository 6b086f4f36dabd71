-- `sets::single`: word by word. Assumes nothing.
use native.Mathlib.Omega.{arith}
use Rattle.sets.proofs.Four.{four_exactly}
use borrow.Author.Rules.{rules}
use Rattle.sets.proofs.single.Goals as goal

pub returns : goal.returns
returns c =
    let b = c.before.before in
    four_exactly _ (search rules) (λ e h. omega arith)
    b.bit.ensures b.bit-2.ensures c.bit-3.ensures c.bit-4.ensures
