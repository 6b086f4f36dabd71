-- Document 02, order 8: "A pair is four numbers: each range's first block, from 0, and the block past its last."
use Rattle.std.specs.Prelude.{List, ℕ, ◌-◌, ◌*◌, ◌≤◌, get_or, take, drop}
use Rattle.plain.specs.Items.{item_at, item_count}
use Rattle.shapes.specs.Shape.{block_size}
use Rattle.tray_pairs.specs.declared.Pair.{Pair}
use Rattle.tray_pairs.specs.declared.Range.{Range}

-- So many numbers are a pair; a block's size is another thing.
abbrev pub pair_size : ℕ
pair_size = 4

abbrev pub pair_count : List ℕ → ℕ
pair_count pairs = item_count pair_size pairs

-- the blocks from number a on, up to and without number b
abbrev pub range : ℕ → ℕ → Range
range a b = record { first = a; past = b }

-- Pair i, from 0, of lent numbers.
abbrev pub pair_from : List ℕ → Pair
pair_from xs = record { x = range (get_or xs 0 0) (get_or xs 1 0); y = range (get_or xs 2 0) (get_or xs 3 0) }

abbrev pub pair_at : List ℕ → ℕ → Pair
pair_at pairs i = pair_from (item_at pair_size pairs i)

-- It does not end before it starts, nor reach past the n whole blocks lent.
pub record RangeInside (n : ℕ) (r : Range) : Type 0 where
  pub forward : r.first ≤ r.past
  pub within : r.past ≤ n

-- The numbers of its blocks, among those lent.
abbrev pub lent_in : List ℕ → Range → List ℕ
lent_in blocks r = take ((r.past - r.first) * block_size) (drop (r.first * block_size) blocks)
