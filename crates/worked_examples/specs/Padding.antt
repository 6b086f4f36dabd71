-- Document 02, order 5: padding is not part of a field. Its examples, as statements about the definitions.
use Rattle.std.specs.Prelude.{◌≡◌, List, [], ◌∷◌, ℕ, ◌^◌}
use Rattle.shapes.specs.Shape.{Block}
use Rattle.texts.specs.Padding.{Padded}
use Rattle.hulls.specs.Hull.{none}
use Rattle.walks.specs.Walk.{Same}
use Rattle.sweep_steps.specs.Steps.{cannot, sweep_of}
use Rattle.worked_examples.specs.Letters.{a, empty, block, NarrowedTo, both}

-- the blank, as a base
abbrev pub blank_base : ℕ
blank_base = 2 ^ 32

-- a1..1 and a blank, and a1..1 alone
abbrev pub padded : List Block
padded = block a 1 1 ∷ (block blank_base 1 1 ∷ [])

abbrev pub bare : List Block
bare = block a 1 1 ∷ []

pub record Padding : Type 0 where
  -- "a 'cannot' is no ground for a kind 0 none": the sweep says cannot, to the letter there is none, and but for
  -- padding both stay as entered; none would be false
  pub sweep_cannot : sweep_of padded bare ≡ cannot 4
  pub none_exact : NarrowedTo Same padded bare none
  pub some_padded : NarrowedTo Padded padded bare (both padded bare)
  pub none_false : NarrowedTo Padded padded bare none → ⊥
  -- a block that holds only padding: blanks 0..5 against nothing stay blanks 0..5
  pub blanks_kept : NarrowedTo Padded (block blank_base 0 5 ∷ []) (block empty 0 0 ∷ []) (both (block blank_base 0 5 ∷ []) (block empty 0 0 ∷ []))
