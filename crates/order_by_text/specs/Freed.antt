-- All that is known once the second pass is done.
use Rattle.std.specs.Prelude.{List, ℕ, length}
use Rattle.shapes.specs.Shape.{Block}
use Rattle.sets.specs.declared.Set.{Set}
use Rattle.sets.specs.Set.{Exactly}
use Rattle.rows.specs.declared.LaidBlock.{LaidBlock}
use Rattle.rows.specs.Row.{row_in, slot_in}
use Rattle.rows.specs.Steps.{AnyOf}
use Rattle.row_paths.specs.Rows.{Zones}
use Rattle.order_sides.specs.Guide.{Guide}
use Rattle.order_rows.specs.Rows.{Known}
use Rattle.order_states.specs.declared.Gathered.{Gathered}
use Rattle.order_back.specs.Back.{Gathers}

-- For each shape whose runs may end at the positions of `free`, and each guide of which g and chars are gathered.
pub record Freed (layout : List LaidBlock) (u free : ℕ) (g : Gathered) (chars chars' : List Set) (quit moved : ℕ) : Type 0 where
  pub holds : (X : ℕ → Block) (G : Guide) (Z E : ℕ → ℕ) → Zones X Z E (length layout) → Exactly free (AnyOf Z (length layout)) → Gathers X G u layout chars g
      → Known X G u (slot_in layout) (length layout) quit moved (row_in chars')
