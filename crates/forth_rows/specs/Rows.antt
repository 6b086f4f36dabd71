-- The rows of one block in equality's first pass.
use Rattle.std.specs.Prelude.{◌≡◌, List, ℕ, ◌+◌, ◌<◌, length}
use Rattle.sets.specs.declared.Set.{Set}
use Rattle.sets.specs.Set.{Exactly}
use Rattle.shapes.specs.Shape.{Block}
use Rattle.pads.specs.Pad.{PadPath}
use Rattle.rows.specs.Row.{row_in}
use Rattle.row_paths.specs.Rows.{Zones, Shares, BlockIn, Entered, Comes, Stops}

-- The rows of the first o positions of the block b from p on, and what is entered after them.
pub record RowsTo (X Y : ℕ → Block) (p : ℕ) (b : Block) (o : ℕ) (rows : List Set) (enter stopped : ℕ) : Type 0 where
  pub row : (h : ℕ) → h < o → Exactly (row_in rows (p + h)) (λ j. PadPath X Y (p + h) j 0 0)
  pub enter_is : Exactly enter (Comes X Y p b o)
  pub stopped_is : Exactly stopped (Stops X Y p b o)

-- The rows of the whole block, and what the next position is entered by.
pub record BlockRows (X Y : ℕ → Block) (p : ℕ) (b : Block) (rows : List Set) (next : ℕ) : Type 0 where
  pub row : (h : ℕ) → h < b.upper → Exactly (row_in rows (p + h)) (λ j. PadPath X Y (p + h) j 0 0)
  pub next_is : Exactly next (Entered X Y (p + b.upper))

-- For each X that has the block there and each Y whose ends of runs are the steps from Z to E, if the block's first
-- position is entered by s.
pub record Follows (Z E : ℕ → ℕ) (k mine waits p : ℕ) (b : Block) (s : ℕ) (P : (ℕ → Block) → (ℕ → Block) → Type 0) : Type 0 where
  pub holds : (X Y : ℕ → Block) → Zones Y Z E k → BlockIn X p b → Shares Y b.base mine waits → Exactly s (Entered X Y p) → P X Y

-- Rows before p stay.
pub record RowsKept (p : ℕ) (w w' : List Set) : Type 0 where
  pub long : length w' ≡ length w
  pub kept : (i : ℕ) → i < p → row_in w' i ≡ row_in w i
