-- `shape_checks::check_each`: every block passed is sound. Assumes nothing.
use Prim.Native.Nat.{ℕ, ◌<◌}
use Rattle.shapes.specs.Shape.{Sound}
use Rattle.shapes.specs.Lent.{block_at}
use Rattle.shape_checks.proofs.check_each.Given as goal

abbrev pub invariant-loop-i : goal.invariant-loop-i
invariant-loop-i l = (j : ℕ) → j < l.i → Sound (block_at l.shape j)
