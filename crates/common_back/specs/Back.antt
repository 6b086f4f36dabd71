-- The pass from the ends, which keeps its rows: row i has the positions of Y from which, beside position i of X, one
-- text leads both to their ends.
use Rattle.std.specs.Prelude.{◌≡◌, List, ℕ, ◌≤◌, ◌<◌, length}
use Rattle.bases.specs.Base.{Meets}
use Rattle.sets.specs.Set.{Exactly}
use Rattle.sets.specs.declared.Set.{Set}
use Rattle.shapes.specs.Shape.{total, block_count}
use Rattle.shapes.specs.Lent.{shape_of, block_at}
use Rattle.walks.specs.Walk.{Path, slot_at}
use Rattle.rows.specs.Row.{row_in, table_size}

-- All rows of the shape x beside the shape y, and where the bases of its blocks meet those of y.
pub record EndRows (x y : List ℕ) (mines rows : List Set) : Type 0 where
  pub mine : (h : ℕ) → h < block_count x → Exactly (row_in mines h) (λ q. Meets (block_at x h).base (slot_at (shape_of y) q).base)
  pub row : (i : ℕ) → i ≤ total (shape_of x) → Exactly (row_in rows i) (λ j. Path (slot_at (shape_of x)) (slot_at (shape_of y)) (total (shape_of x)) (total (shape_of y)) i j)
  pub mines_long : block_count x ≤ length mines
  pub rows_long : length rows ≡ table_size
