-- Equality's first pass: row i has the positions of Y to which one text, but for padding, leads from the starts, beside
-- position i of X.
use Rattle.std.specs.Prelude.{◌≡◌, List, ℕ, ◌≤◌, ◌<◌, take}
use Rattle.bases.specs.Base.{Meets}
use Rattle.sets.specs.declared.Set.{Set}
use Rattle.sets.specs.Set.{set_of, Exactly}
use Rattle.shapes.specs.Shape.{total, block_count}
use Rattle.shapes.specs.Lent.{shape_of, block_at}
use Rattle.walks.specs.Walk.{slot_at}
use Rattle.pads.specs.Pad.{PadPath, padded_at}
use Rattle.rows.specs.Row.{row_in}
use Rattle.row_steps.specs.declared.Runs.{Runs}
use Rattle.row_paths.specs.Rows.{Entered}

-- The first i blocks of the shape x beside the shape y, each with the padding behind it: their rows, where their bases
-- meet Y's, and what the next position p is entered by.
pub record PassTo (pad : ℕ) (x y : List ℕ) (i p : ℕ) (mines rows : List Set) (s : ℕ) : Type 0 where
  pub place : p ≡ total (take i (shape_of x))
  pub mine : (h : ℕ) → h < i → Exactly (row_in mines h) (λ q. Meets (block_at x h).base (slot_at (shape_of y) q).base)
  pub row : (h : ℕ) → h < p → Exactly (row_in rows h) (λ j. PadPath (padded_at pad (shape_of x)) (padded_at pad (shape_of y)) h j 0 0)
  pub enter : Exactly s (Entered (padded_at pad (shape_of x)) (padded_at pad (shape_of y)) p)

-- All of them.
pub record Pass (pad : ℕ) (x y : List ℕ) (mines rows : List Set) (last : ℕ) : Type 0 where
  pub mine : (h : ℕ) → h < block_count x → Exactly (row_in mines h) (λ q. Meets (block_at x h).base (slot_at (shape_of y) q).base)
  pub row : (h : ℕ) → h ≤ total (shape_of x) → Exactly (row_in rows h) (λ j. PadPath (padded_at pad (shape_of x)) (padded_at pad (shape_of y)) h j 0 0)
  pub last_is : Exactly last (λ j. PadPath (padded_at pad (shape_of x)) (padded_at pad (shape_of y)) (total (shape_of x)) j 0 0)

-- All these are sets of one word.
pub record InWords (runs : Runs) (mine waits s : Set) : Type 0 where
  pub free_is : set_of runs.free ≡ runs.free.a
  pub stops_is : set_of runs.stops ≡ runs.stops.a
  pub mine_is : set_of mine ≡ mine.a
  pub waits_is : set_of waits ≡ waits.a
  pub row_is : set_of s ≡ s.a
