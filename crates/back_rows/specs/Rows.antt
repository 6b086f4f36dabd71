-- Equality's second pass over one block: rows from its end, one after the other, and what is gathered on the way.
use Rattle.std.specs.Prelude.{List, ℕ, ◌+◌, ◌≤◌, ◌<◌}
use Rattle.sets.specs.declared.Set.{Set}
use Rattle.sets.specs.Set.{set_of, Exactly}
use Rattle.shapes.specs.Shape.{Block}
use Rattle.pads.specs.Pad.{PadPath}
use Rattle.rows.specs.Row.{row_in}
use Rattle.row_paths.specs.Rows as rows
use Rattle.row_paths.specs.Rows.{Zones, Shares, BlockIn}
use Rattle.back_rows.specs.declared.Gathered.{Gathered}

-- What is gathered at position i, where the block at hand ends at e.
abbrev pub GatheredAt : (ℕ → Block) → (ℕ → Block) → ℕ → ℕ → ℕ → ℕ → Gathered → Type 0
GatheredAt X Y U W i e g = rows.Gathered X Y U W i e (set_of g.row) (set_of g.used) (set_of g.quit) (set_of g.stops) (set_of g.takes)

-- For each X that has the block b at p, each Y whose ends of runs are the steps from Z to E, and ends U and W.
pub record Whenever (Z E : ℕ → ℕ) (k mine waits p : ℕ) (b : Block) (P : (ℕ → Block) → (ℕ → Block) → ℕ → ℕ → Type 0) : Type 0 where
  pub holds : (X Y : ℕ → Block) (U W : ℕ) → Zones Y Z E k → BlockIn X p b → p + b.upper ≤ U → Shares Y b.base mine waits → P X Y U W

-- One row: f is the row of the first pass, `stop` the row where the block ends.
abbrev pub RowBack : ℕ → ℕ → ℕ → ℕ → Block → Gathered → Gathered → (ℕ → Block) → (ℕ → Block) → ℕ → ℕ → Type 0
RowBack f stop o p b g r X Y U W = o < b.upper → Exactly f (λ j. PadPath X Y (p + o) j 0 0) → Exactly stop (λ j. PadPath X Y U W (p + b.upper) j)
    → GatheredAt X Y U W (p + o + 1) (p + b.upper) g → GatheredAt X Y U W (p + o) (p + b.upper) r

-- The rows of the block from o on, where `stop` is the row at its end.
abbrev pub RowsBack : List Set → ℕ → ℕ → ℕ → Block → Gathered → Gathered → (ℕ → Block) → (ℕ → Block) → ℕ → ℕ → Type 0
RowsBack rows stop o p b g r X Y U W = ((h : ℕ) → h < b.upper → Exactly (row_in rows (p + h)) (λ j. PadPath X Y (p + h) j 0 0))
    → GatheredAt X Y U W (p + b.upper) (p + b.upper) g → Exactly stop (λ j. PadPath X Y U W (p + b.upper) j) × GatheredAt X Y U W (p + o) (p + b.upper) r

-- All rows of a block.
abbrev pub BlockBack : List Set → ℕ → Block → Gathered → Gathered → (ℕ → Block) → (ℕ → Block) → ℕ → ℕ → Type 0
BlockBack rows p b g r X Y U W = ((o : ℕ) → o < b.upper → Exactly (row_in rows (p + o)) (λ j. PadPath X Y (p + o) j 0 0))
    → GatheredAt X Y U W (p + b.upper) (p + b.upper) g → GatheredAt X Y U W p (p + b.upper) r
