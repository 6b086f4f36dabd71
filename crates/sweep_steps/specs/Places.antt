-- Document 01, "The quick sweep": places, their order, and a place of the reversed shape as one of the shape as
-- entered.
use Rattle.std.specs.Prelude.{Bool, false, List, ℕ, ◌+◌, ◌-◌, eqb, ltb, length, get_or}
use Rattle.shapes.specs.Shape.{Block, no_block}
use Rattle.sweep_steps.specs.Share.{pick}
use Rattle.sweep_steps.specs.declared.Offset.{Offset}
use Rattle.sweep_steps.specs.declared.Place.{Place}

-- so many characters into a block
abbrev pub offset : ℕ → Offset
offset o = record { 0 = o }

-- the place (i, o)
abbrev pub at : ℕ → ℕ → Place
at i o = record { block = record { 0 = i }; offset = record { 0 = o } }

-- its block's number, and its offset
abbrev pub number_of : Place → ℕ
number_of p = p.block.0

abbrev pub offset_of : Place → ℕ
offset_of p = p.offset.0

-- the place is (1, 0)
abbrev pub is_start : Place → Bool
is_start p = pick (eqb (number_of p) 1) (eqb (offset_of p) 0) false

-- Places are compared by block, then by offset.
unfoldable pub before : Place → Place → Bool
before p q = pick (eqb (number_of p) (number_of q)) (ltb (offset_of p) (offset_of q)) (ltb (number_of p) (number_of q))

-- the later of two places
unfoldable pub later : Place → Place → Place
later p q = pick (before p q) q p

-- block number i of a shape, from 1
abbrev pub nth : List Block → ℕ → Block
nth y i = get_or y (i - 1) no_block

-- A place p of the reversed shape as a place of the shape y as entered: block j of the reversed shape is block m + 1 -
-- j of y, and k back from its end is l' - k forward. Past the end of the reversed shape is (1, 0).
unfoldable pub forward : List Block → Place → Place
forward y p =
    let j = length y + 1 - number_of p in
    pick (ltb (length y) (number_of p)) (at 1 0) (at j ((nth y j).lower - offset_of p))
