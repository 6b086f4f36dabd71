-- `find_ways::leaves`: what is left of the base is not empty. Assumes nothing.
use borrow.Author.Tests.{not-true, not-false}
use Rattle.find_ways.proofs.Words.{outside_some, some_outside}
use Rattle.find_ways.proofs.leaves.Goals as goal

pub returns : goal.returns
returns c =
    let t = c.is_empty.ensures in
    let b = c.without.ensures in
    record { so = λ e. outside_some b (t.not_so (not-true _ e)); not_so = λ e. some_outside b (t.so (not-false _ e)) }
