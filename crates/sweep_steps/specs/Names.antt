-- Document 01, "The quick sweep": the names of a boundary between the characters of a text, in a shape under a filling.
use Rattle.std.specs.Prelude.{◌≡◌, List, [], ℕ, ◌+◌, ◌≤◌, ◌<◌, length, get_or, take}
use Rattle.shapes.specs.Shape.{text_of}
use Rattle.sweep_steps.specs.Places.{number_of, offset_of}
use Rattle.sweep_steps.specs.declared.Place.{Place}

-- A text's character index, kept apart from a block's number and from an offset: the boundary behind so many
-- characters.
pub record Boundary : Type 0 where
  pub characters : ℕ

-- where the run of a filling's block number i + 1 starts
abbrev pub start_of : List (List ℕ) → ℕ → Boundary
start_of f i = record { characters = length (text_of (take i f)) }

-- Places are compared by block, then by offset.
pub data AtOrBefore (p q : Place) : Type 0 where
  earlier_block : number_of p < number_of q → AtOrBefore p q
  same_block : number_of p ≡ number_of q → offset_of p ≤ offset_of q → AtOrBefore p q

-- A place that names the boundary b, under the filling g: within a block's run, from its start to its end, or past the
-- end.
pub data Name (g : List (List ℕ)) (b : Boundary) (q : Place) : Type 0 where
  within : (j : ℕ) → j < length g → number_of q ≡ j + 1 → offset_of q ≤ length (get_or g j []) → b.characters ≡ (start_of g j).characters + offset_of q → Name g b q
  past : number_of q ≡ length g + 1 → offset_of q ≡ 0 → b.characters ≡ length (text_of g) → Name g b q

-- A boundary may have several names where runs are empty or end. This is its latest.
pub record Latest (g : List (List ℕ)) (b : Boundary) (q : Place) : Type 0 where
  pub name : Name g b q
  pub latest : (r : Place) → Name g b r → AtOrBefore r q
