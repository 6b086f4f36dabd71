-- Document 02, order 2, one character at a time. P and Q are the positions of the two shapes to which the text so far
-- leads; X and Y say what the shapes allow at each position up to their ends U and W.
use Rattle.std.specs.Prelude.{◌≡◌, List, [], ℕ, ◌+◌, ◌≤◌, ◌<◌, length}
use Rattle.bases.specs.Base.{Holds}
use Rattle.shapes.specs.Shape.{Block, block_count}
use Rattle.walks.specs.Walk.{Walk, Path}
use Rattle.rows.specs.Row.{zone_in, end_in, slot_in}
use Rattle.rows.specs.declared.LaidBlock.{LaidBlock}
use Rattle.rows.specs.Steps.{Together}
use Rattle.row_paths.specs.Laid.{LaidOut}

-- Both take c, at i and j, and from there one text leads both to their ends.
pub record BothTake (X Y : ℕ → Block) (U W i j c : ℕ) : Type 0 where
  pub first : Holds (X i).base c
  pub second : Holds (Y j).base c
  pub on : Path X Y U W (i + 1) (j + 1)

-- The character c may come next: both take it, at a position that has D and at one of Q.
pub record MayCome (X Y : ℕ → Block) (U W : ℕ) (D : ℕ → Type 0) (Q c : ℕ) : Type 0 where
  pub own : ℕ
  pub other : ℕ
  pub has : D own
  pub held : Holds Q other
  pub goes : BothTake X Y U W own other c

-- The least number that has A; 256 if none has.
pub data LeastOf (A : ℕ → Type 0) (code : ℕ) : Type 0 where
  some : code < 256 → A code → ((c : ℕ) → A c → code ≤ c) → LeastOf A code
  none : code ≡ 256 → ((c : ℕ) → A c → ⊥) → LeastOf A code

-- Of P nothing is dropped at which both could take a character.
pub record NoneDropped (X Y : ℕ → Block) (U W P Q kept : ℕ) : Type 0 where
  pub so : (i : ℕ) → Holds kept i → Holds P i
  pub live : (i j c : ℕ) → Holds P i → Holds Q j → BothTake X Y U W i j c → Holds kept i

-- From a position of s the ends of runs lead to q.
pub record RunsEnded (X : ℕ → Block) (s q : ℕ) : Type 0 where
  pub from : ℕ
  pub held : Holds s from
  pub walk : Walk X q from []

-- From a position of P the character c leads to q, by the ends of runs after it.
pub record After (X : ℕ → Block) (P c q : ℕ) : Type 0 where
  pub from : ℕ
  pub held : Holds P from
  pub takes : Holds (X from).base c
  pub ends : Walk X q (from + 1) []

-- Where a run of the shape x may end, and where it then is: all zones and all ends of its layout.
pub record RunEnds (x : List ℕ) (free stops : ℕ) : Type 0 where
  pub layout : List LaidBlock
  pub laid : LaidOut x layout
  pub all : Together (zone_in layout) (end_in layout) (block_count x) free stops

-- A lent shape and the rows of its blocks' positions, with room for all of them. Nothing is asked of where its runs may
-- end: they are those of some layout of the shape.
pub record Slotted (x : List ℕ) (layout : List LaidBlock) : Type 0 where
  pub other : List LaidBlock
  pub laid : LaidOut x other
  pub same : (j : ℕ) → j < block_count x → slot_in layout j ≡ slot_in other j
  pub long : block_count x ≤ length layout
