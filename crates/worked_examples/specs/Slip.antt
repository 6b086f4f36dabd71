-- Document 01, "Slips we have met": taking a sweep that does not say cannot for a common text.
use Rattle.std.specs.Prelude.{◌≡◌, List, [], ◌∷◌}
use Rattle.shapes.specs.Shape.{Block}
use Rattle.hulls.specs.Hull.{none}
use Rattle.walks.specs.Walk.{Same}
use Rattle.sweep_steps.specs.Places.{at}
use Rattle.sweep_steps.specs.Steps.{places, sweep_of}
use Rattle.worked_examples.specs.Letters.{a, b, block, NarrowedTo}

-- a0..1 b1..1 a0..1 in b0..1 a2..2 b0..1
abbrev pub slip_x : List Block
slip_x = block a 0 1 ∷ (block b 1 1 ∷ (block a 0 1 ∷ []))

abbrev pub slip_y : List Block
slip_y = block b 0 1 ∷ (block a 2 2 ∷ (block b 0 1 ∷ []))

-- There are places, and no common text.
pub record Slip : Type 0 where
  pub found : sweep_of slip_x slip_y ≡ places (at 1 0 ∷ (at 3 0 ∷ (at 3 1 ∷ []))) 7
  pub no_text : NarrowedTo Same slip_x slip_y none
