-- An order's second pass, by groups of states at which the guide says the same.
use Rattle.std.specs.Prelude.{◌≡◌, Bool, true, List, ◌⊎◌, ℕ, ◌≤◌, length}
use Rattle.bases.specs.Base.{Holds}
use Rattle.sets.specs.declared.Set.{Set}
use Rattle.sets.specs.Set.{set_of, Exactly}
use Rattle.shapes.specs.Shape.{Block, total, block_count}
use Rattle.shapes.specs.Lent.{shape_of, block_at}
use Rattle.rows.specs.declared.LaidBlock.{LaidBlock}
use Rattle.rows.specs.Row.{row_in, zone_in, end_in, slot_in, table_size}
use Rattle.rows.specs.Steps.{MeetsOne, Given, Together}
use Rattle.carries.specs.Climb.{Spans}
use Rattle.row_steps.specs.declared.Runs.{Runs}
use Rattle.order_sides.specs.Guide.{Guide}
use Rattle.row_paths.specs.Laid.{Laid, LaidOut}
use Rattle.order_rows.specs.Rows.{Limit, Brought}
use Rattle.order_states.specs.declared.Sorts.{Sorts}
use Rattle.order_states.specs.declared.Gathered.{Gathered}
use Rattle.order_states.specs.States.{PassOf}

-- A shape laid out, with its runs and their spans, u past all its blocks, a text, and room for the rows and for each
-- block's characters.
pub record Ready (x : List ℕ) (layout : List LaidBlock) (runs : Runs) (spans : List Set) (u : ℕ) (text : List ℕ) (rows chars : List Set) : Type 0 where
  pub laid : Laid x layout
  pub all : Together (zone_in layout) (end_in layout) (block_count x) (set_of runs.free) (set_of runs.stops)
  pub spanned : Spans (set_of runs.free) spans
  pub size : u ≡ total (shape_of x)
  pub short : length text ≤ 250
  pub rows_long : length rows ≡ table_size
  pub room : block_count x ≤ length chars

-- The same where the layout has one struct for each block and no more.
pub record ReadyOut (x : List ℕ) (layout : List LaidBlock) (runs : Runs) (spans : List Set) (u : ℕ) (text : List ℕ) (rows chars : List Set) : Type 0 where
  pub laid : LaidOut x layout
  pub all : Together (zone_in layout) (end_in layout) (length layout) (set_of runs.free) (set_of runs.stops)
  pub spanned : Spans (set_of runs.free) spans
  pub size : u ≡ total (shape_of x)
  pub short : length text ≤ 250
  pub rows_long : length rows ≡ table_size
  pub room : block_count x ≤ length chars

-- The positions of the blocks of x, sorted by the bases that their bases meet.
pub record SortedBy (x : List ℕ) (layout : List LaidBlock) (u same apart : ℕ) (may : Bool) (r : Sorts) : Type 0 where
  pub stays : Exactly (set_of r.same) (MeetsOne (λ j. (block_at x j).base) (slot_in layout) (length layout) same)
  pub parts : Exactly (set_of r.apart) (MeetsOne (λ j. (block_at x j).base) (slot_in layout) (length layout) apart)
  pub leaves : Exactly (set_of r.over) (λ i. ((i ≡ u) × (may ≡ true)) ⊎ Holds (set_of r.apart) i)

-- The base is given to each block that has a slot in the row.
pub record Handed (layout : List LaidBlock) (row base : ℕ) (chars chars' : List Set) : Type 0 where
  pub given : Given (slot_in layout) (length layout) row base (row_in chars) (row_in chars')
  pub long : length chars' ≡ length chars

-- The states from lo on and before hi, and the characters that they bring to those of the states from hi on.
pub record Group (X : ℕ → Block) (G : Guide) (U : ℕ) (layout : List LaidBlock) (lo hi : ℕ) (chars chars' : List Set) (r : Gathered) : Type 0 where
  pub pass : PassOf X G U lo hi r
  pub long : length chars' ≡ length chars
  pub brought : (h : ℕ) → hi ≤ h → Brought X G U (slot_in layout) (length layout) hi h (row_in chars) → Brought X G U (slot_in layout) (length layout) lo h (row_in chars')

-- The states from lo on, up to one past all that are reached.
pub record GathersFrom (X : ℕ → Block) (G : Guide) (U : ℕ) (layout : List LaidBlock) (lo : ℕ) (chars : List Set) (r : Gathered) : Type 0 where
  pub top : ℕ
  pub within : lo ≤ top
  pub limit : Limit X G.same top
  pub pass : PassOf X G U lo top r
  pub brought : Brought X G U (slot_in layout) (length layout) lo top (row_in chars)

-- All of them.
abbrev pub Gathers : (ℕ → Block) → Guide → ℕ → List LaidBlock → List Set → Gathered → Type 0
Gathers X G U layout chars r = GathersFrom X G U layout 0 chars r
