-- `find_calls::index_of`: as many characters stand before the mark as it lacks of k, and indices count from 1. Assumes
-- nothing.
use native.Mathlib.Omega.{arith}
use Rattle.find_calls.proofs.index_of.Goals as goal

pub returns : goal.returns
returns c = let l = c.requires.0 in omega arith
