-- The rows of one block in the pass from the ends.
use Rattle.std.specs.Prelude.{◌≡◌, List, ℕ, ◌+◌, ◌≤◌, ◌<◌, length}
use Rattle.bases.specs.Base.{Meets}
use Rattle.sets.specs.Set.{Exactly}
use Rattle.sets.specs.declared.Set.{Set}
use Rattle.shapes.specs.Shape.{Block}
use Rattle.pads.specs.Pad.{PadPath, Roomy}
use Rattle.rows.specs.Row.{row_in}
use Rattle.row_paths.specs.Rows.{Zones, BlockIn}

-- For each X that has the block b at p, each Y without padding whose ends of runs are the steps from Z to E, and ends U
-- and W.
pub record WheneverRoomy (Z E : ℕ → ℕ) (k mine p : ℕ) (b : Block) (P : (ℕ → Block) → (ℕ → Block) → ℕ → ℕ → Type 0) : Type 0 where
  pub holds : (X Y : ℕ → Block) (U W : ℕ) → Zones Y Z E k → BlockIn X p b → p + b.upper ≤ U → Roomy Y → Exactly mine (λ q. Meets b.base (Y q).base) → P X Y U W

-- The rows of the block b from p on, where s is the row at its end and r that at its start.
abbrev pub BlockKept : ℕ → List Set → ℕ → Block → ℕ → (ℕ → Block) → (ℕ → Block) → ℕ → ℕ → Type 0
BlockKept s rows p b r X Y U W = Exactly s (λ j. PadPath X Y U W (p + b.upper) j)
    → ((o : ℕ) → o < b.upper → Exactly (row_in rows (p + o)) (λ j. PadPath X Y U W (p + o) j)) × Exactly r (λ j. PadPath X Y U W p j)

-- Rows from e on stay.
pub record RowsAfter (e : ℕ) (w w' : List Set) : Type 0 where
  pub long : length w' ≡ length w
  pub kept : (i : ℕ) → e ≤ i → row_in w' i ≡ row_in w i
