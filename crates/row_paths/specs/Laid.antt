-- A lent shape and its rows of positions.
use Rattle.std.specs.Prelude.{◌≡◌, List, ℕ, ◌≤◌, length}
use Rattle.shapes.specs.Lent.{Whole, shape_of}
use Rattle.row_lay.specs.Lay.{Lay}
use Rattle.shapes.specs.Shape.{block_count}
use Rattle.rows.specs.declared.LaidBlock.{LaidBlock}

-- A lent shape with its layout, which has room for all its blocks.
pub record Laid (x : List ℕ) (layout : List LaidBlock) : Type 0 where
  pub whole : Whole x
  pub lay : Lay (shape_of x) layout
  pub long : block_count x ≤ length layout

-- The same where the layout has one struct for each block and no more.
pub record LaidOut (x : List ℕ) (layout : List LaidBlock) : Type 0 where
  pub whole : Whole x
  pub lay : Lay (shape_of x) layout
  pub long : length layout ≡ block_count x
