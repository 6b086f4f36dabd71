-- `fit_tables::gather`: the row of the lowest number left is added, and the number taken off. Assumes nothing.
use mathlib.Core.Path.{◌≡◌}
use Prim.Native.Nat.{ℕ, ◌≤◌, ◌<◌}
use Rattle.sets.specs.Set.{set_of}
use Rattle.fit_tables.proofs.Table.{Picking}
use Rattle.fit_tables.proofs.gather.Given as goal

abbrev pub invariant-loop-left : goal.invariant-loop-left
invariant-loop-left g l =
    (l.left ≤ l.w)
    × ((R : ℕ → ℕ) → ((e : ℕ) (r : _) → e < 64 → goal.F-post g l.row e r → set_of r ≡ R e) → Picking R l.w (set_of l.initial.r) l.left (set_of l.r))

abbrev pub decreases-loop-left : goal.decreases-loop-left
decreases-loop-left g l = l.left
