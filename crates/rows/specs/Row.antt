-- Rows are sets of positions, as `sets` reads them, one after the other.
use Rattle.std.specs.Prelude.{◌≡◌, List, ℕ, length, get_or}
use Rattle.sets.specs.declared.Set.{Set}
use Rattle.sets.specs.Set.{set_of}
use Rattle.rows.specs.declared.LaidBlock.{LaidBlock}

-- A layout has a place for each of 32 blocks, a table a row for each position from 0 to 250.
abbrev pub layout_size : ℕ
layout_size = 32

abbrev pub table_size : ℕ
table_size = 251

-- The set without a position.
abbrev pub no_set : Set
no_set = record { a = 0; b = 0; c = 0; d = 0 }

-- Row j; past the last it has no position.
abbrev pub row_in : List Set → ℕ → ℕ
row_in xs j = set_of (get_or xs j no_set)

-- Row j is set to s, and no other row is changed.
pub record PutRow (w : List Set) (j s : ℕ) (w' : List Set) : Type 0 where
  pub long : length w' ≡ length w
  pub here : row_in w' j ≡ s
  pub kept : (i : ℕ) → (i ≡ j → ⊥) → row_in w' i ≡ row_in w i

-- A block that has no position.
abbrev pub no_laid : LaidBlock
no_laid = record { zone = no_set; end = no_set; slot = no_set }

-- Where the run of block j may end, where it then is, and all the positions of block j.
abbrev pub zone_in : List LaidBlock → ℕ → ℕ
zone_in l j = set_of (get_or l j no_laid).zone

abbrev pub end_in : List LaidBlock → ℕ → ℕ
end_in l j = set_of (get_or l j no_laid).end

abbrev pub slot_in : List LaidBlock → ℕ → ℕ
slot_in l j = set_of (get_or l j no_laid).slot
