-- `file_numerals::places`: k digits are counted, the last of them that of the rest, which has its own. Assumes nothing.
use mathlib.Core.Path.{◌≡◌}
use Prim.Native.Nat.{◌+◌}
use lib.ListN.{length}
use Rattle.file_numerals.specs.Digits.{decimal}
use Rattle.file_numerals.proofs.places.Given as goal

abbrev pub invariant-loop-rest : goal.invariant-loop-rest
invariant-loop-rest l = length (decimal l.n) + 1 ≡ l.k + length (decimal l.rest)

abbrev pub decreases-loop-rest : goal.decreases-loop-rest
decreases-loop-rest l = l.rest
