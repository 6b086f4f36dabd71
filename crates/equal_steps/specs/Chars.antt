-- The characters that a shape's blocks give, at some positions and at its end.
use Rattle.std.specs.Prelude.{◌≡◌, Bool, true, false, List, ℕ, length}
use Rattle.std.specs.Int.Bits.{bit_or}
use Rattle.bases.specs.Base.{Holds}
use Rattle.plain.specs.Tells.{Tells}
use Rattle.sets.specs.Set.{Exactly}
use Rattle.shapes.specs.Lent.{block_at}
use Rattle.rows.specs.declared.LaidBlock.{LaidBlock}
use Rattle.rows.specs.Row.{slot_in}
use Rattle.rows.specs.Steps.{MeetsOne}

-- r has the bases of the blocks of y, laid out, that are used, and the padding if the end m is.
pub record Chars (used : ℕ) (y : List ℕ) (layout : List LaidBlock) (m pad r : ℕ) : Type 0 where
  pub own : ℕ
  pub matched : Exactly own (MeetsOne (slot_in layout) (λ j. (block_at y j).base) (length layout) used)
  pub end : Bool
  pub tells : Tells end (Holds used m)
  pub with : end ≡ true → r ≡ bit_or own pad
  pub without : end ≡ false → r ≡ own
