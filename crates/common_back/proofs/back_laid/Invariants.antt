-- `common_back::back_laid`: the last row first, then block by block from the last, each from the row at its end. Assumes
-- nothing.
use mathlib.Core.Path.{◌≡◌}
use Prim.Native.Nat.{◌≤◌}
use lib.ListN.{length}
use Rattle.sets.specs.Set.{set_of}
use Rattle.shapes.specs.Shape.{block_count}
use Rattle.rows.specs.Row.{table_size}
use Rattle.common_back.proofs.Pass.{PassFrom}
use Rattle.common_back.proofs.back_laid.Given as goal

abbrev pub invariant-loop-i : goal.invariant-loop-i
invariant-loop-i l =
    (l.i ≤ block_count l.x) × (length l.rows ≡ table_size) × PassFrom l.x l.y l.i l.p l.mines l.rows (set_of l.row)
