-- `sets::below`: word by word. Assumes nothing.
use native.Mathlib.Omega.{arith}
use Rattle.sets.proofs.Four.{four_exactly}
use borrow.Author.Rules.{rules}
use Rattle.sets.proofs.below.Goals as goal

pub returns : goal.returns
returns c =
    let b = c.before.before in
    four_exactly _ (search rules) (λ e h. omega arith)
    b.ones.ensures b.ones-2.ensures c.ones-3.ensures c.ones-4.ensures
