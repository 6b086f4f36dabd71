-- `test_lines::show::zeros` is safe and ends: what is left is no more than there was.
use Prim.Native.Nat.{◌≤◌}
use lib.ListN.{length}
use Rattle.test_lines.proofs.show.zeros.Given as goal

abbrev pub invariant-loop-behind : goal.invariant-loop-behind
invariant-loop-behind l = length l.rest ≤ length l.bytes

abbrev pub decreases-loop-behind : goal.decreases-loop-behind
decreases-loop-behind l = length l.rest
