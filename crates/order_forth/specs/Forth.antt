-- An order's first pass: row q has the positions to which some text of the shape leads that matches q characters of a
-- fixed text.
use Rattle.std.specs.Prelude.{◌≡◌, List, ℕ, ◌-◌, ◌≤◌, ◌<◌, length}
use Rattle.sets.specs.declared.Set.{Set}
use Rattle.sets.specs.Set.{Exactly}
use Rattle.shapes.specs.Lent.{shape_of, block_at}
use Rattle.rows.specs.declared.LaidBlock.{LaidBlock}
use Rattle.walks.specs.Walk.{slot_at}
use Rattle.rows.specs.Row.{slot_in, table_size}
use Rattle.rows.specs.Steps.{MeetsOne}
use Rattle.order_guides.specs.Guide.{next_of}
use Rattle.order_rows.specs.Rows.{Matches, MatchRows, Limit}

-- The rows up to n; if that is not the row of the whole text, it is empty.
pub record Forth (x text : List ℕ) (rows : List Set) (n : ℕ) : Type 0 where
  pub within : n ≤ length text
  pub matched : MatchRows (slot_at (shape_of x)) (next_of text) rows n
  pub limit : n < length text → Limit (slot_at (shape_of x)) (next_of text) n

-- The rows up to q, the last of which is `row`; `mask` has the positions that hold the character before.
pub record ForthTo (x : List ℕ) (layout : List LaidBlock) (text : List ℕ) (rows : List Set) (row mask q : ℕ) : Type 0 where
  pub long : length rows ≡ table_size
  pub within : q ≤ length text
  pub matched : MatchRows (slot_at (shape_of x)) (next_of text) rows q
  pub last : Exactly row (λ i. Matches (slot_at (shape_of x)) (next_of text) i q)
  pub masked : 0 < q → Exactly mask (MeetsOne (λ j. (block_at x j).base) (slot_in layout) (length layout) (next_of text (q - 1)))
