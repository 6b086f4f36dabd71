-- Two shapes read together, row by row: row i is the set of the positions of Y that belong to position i of X.
-- X and Y say what the shapes allow at each position up to their ends U and W, where the padding may still come.
use Rattle.std.specs.Prelude.{◌≡◌, ℕ, ◌+◌, ◌≤◌, ◌<◌}
use Rattle.bases.specs.Base.{Holds, Meets}
use Rattle.sets.specs.Set.{Exactly}
use Rattle.shapes.specs.Shape.{Block}
use Rattle.walks.specs.Walk.{lessen}
use Rattle.pads.specs.Pad.{PadPath, after}

-- The steps of rows are the ends of runs of Y: from each position of Z j the run may end, and is then at the position
-- of E j.
pub record Zones (Y : ℕ → Block) (Z E : ℕ → ℕ) (k : ℕ) : Type 0 where
  pub free : (j q : ℕ) → j < k → Holds (Z j) q → (Y q).lower ≡ 0
  pub stop : (j q e : ℕ) → j < k → Holds (Z j) q → Holds (E j) e → e ≡ q + (Y q).upper
  pub find : (q : ℕ) → (Y q).lower ≡ 0 → (j : ℕ) × (j < k) × Holds (Z j) q × Holds (E j) (q + (Y q).upper)
  pub within : (q c : ℕ) → Holds (Y q).base c → q < 255

-- The block b starts at position p of X. No run ends beyond a block's end, and none that may end has no room.
pub record BlockIn (X : ℕ → Block) (p : ℕ) (b : Block) : Type 0 where
  pub slot : (o : ℕ) → o < b.upper → X (p + o) ≡ lessen b o
  pub edge : (h : ℕ) → h < p → h + (X h).upper ≤ p
  pub room : (h : ℕ) → (X h).lower ≡ 0 → 0 < (X h).upper

-- Where a base shares a character with Y: at positions from which Y then goes on, and at its end, where it waits.
pub record Shares (Y : ℕ → Block) (base on waits : ℕ) : Type 0 where
  pub goes : Exactly on (λ q. Meets base (Y q).base × (0 < (Y q).upper))
  pub stays : Exactly waits (λ q. Meets base (Y q).base × ((Y q).upper ≡ 0))
  pub within : (q c : ℕ) → Holds (Y q).base c → q < 255

-- One such character leads from a position of the row to j.
pub record Onto (Y : ℕ → Block) (base row j : ℕ) : Type 0 where
  pub from : ℕ
  pub held : Holds row from
  pub meets : Meets base (Y from).base
  pub next : j ≡ after Y from

-- One such character leads from j into the row.
pub record Into (Y : ℕ → Block) (base row j : ℕ) : Type 0 where
  pub meets : Meets base (Y j).base
  pub lands : Holds row (after Y j)

-- r is what one character leads to from the row, and what it leads into the row from, whatever Y and the base share.
pub record Onwards (row on waits r : ℕ) : Type 0 where
  pub holds : (Y : ℕ → Block) (base : ℕ) → Shares Y base on waits → Exactly r (Onto Y base row)

pub record Inwards (row on waits r : ℕ) : Type 0 where
  pub holds : (Y : ℕ → Block) (base : ℕ) → Shares Y base on waits → Exactly r (Into Y base row)

-- The pair of i and j is reached from the starts otherwise than by what Y does while X waits: the end of a run of Y, or
-- padding.
pub data Entered (X Y : ℕ → Block) (i j : ℕ) : Type 0 where
  start : i ≡ 0 → j ≡ 0 → Entered X Y i j
  ended : (h : ℕ) → (X h).lower ≡ 0 → i ≡ h + (X h).upper → PadPath X Y h j 0 0 → Entered X Y i j
  taken : (h l : ℕ) → i ≡ h + 1 → j ≡ after Y l → 0 < (X h).upper → Meets (X h).base (Y l).base → PadPath X Y h l 0 0 → Entered X Y i j

-- Within the block b from p on, after o of its characters: by its start, or by its last character.
pub data Comes (X Y : ℕ → Block) (p : ℕ) (b : Block) (o j : ℕ) : Type 0 where
  first : o ≡ 0 → Entered X Y p j → Comes X Y p b o j
  taken : (h l : ℕ) → o ≡ h + 1 → j ≡ after Y l → Meets b.base (Y l).base → PadPath X Y (p + h) l 0 0 → Comes X Y p b o j

-- The run may end after one of its first o characters.
pub record Stops (X Y : ℕ → Block) (p : ℕ) (b : Block) (o j : ℕ) : Type 0 where
  pub number : ℕ
  pub enough : b.lower ≤ number
  pub before : number < o
  pub reached : PadPath X Y (p + number) j 0 0

-- From i and j one text leads to the ends, and not first by the end of a run of Y.
pub data LeadsOn (X Y : ℕ → Block) (U W i j : ℕ) : Type 0 where
  end : i ≡ U → j ≡ W → LeadsOn X Y U W i j
  ended : (X i).lower ≡ 0 → PadPath X Y U W (i + (X i).upper) j → LeadsOn X Y U W i j
  taken : Meets (X i).base (Y j).base → PadPath X Y U W (after X i) (after Y j) → LeadsOn X Y U W i j

-- Some pair of fillings with one text comes to h and j: there the run of X ends early, or both take one character.
pub record Quits (X Y : ℕ → Block) (U W h j : ℕ) : Type 0 where
  pub reached : PadPath X Y h j 0 0
  pub free : (X h).lower ≡ 0
  pub on : PadPath X Y U W (h + (X h).upper) j

pub record Takes (X Y : ℕ → Block) (U W h j : ℕ) : Type 0 where
  pub reached : PadPath X Y h j 0 0
  pub meets : Meets (X h).base (Y j).base
  pub on : PadPath X Y U W (after X h) (after Y j)

-- Some number from i on has P; h is such a number, with some other.
pub record From (i : ℕ) (P : ℕ → Type 0) : Type 0 where
  pub number : ℕ
  pub from : i ≤ number
  pub has : P number

pub record Seen (i : ℕ) (P : ℕ → ℕ → Type 0) (h : ℕ) : Type 0 where
  pub from : i ≤ h
  pub other : ℕ
  pub has : P h other

-- Both take a character at j and at some position of X from i on and before e.
pub record Used (X Y : ℕ → Block) (U W i e j : ℕ) : Type 0 where
  pub number : ℕ
  pub from : i ≤ number
  pub before : number < e
  pub takes : Takes X Y U W number j

-- There Y has the character c, and its position is from l on.
pub record Gives (X Y : ℕ → Block) (U W i e l c : ℕ) : Type 0 where
  pub other : ℕ
  pub past : l ≤ other
  pub used : Used X Y U W i e other
  pub holds : Holds (Y other).base c

-- What the second pass knows at position i of X: the row, what the block that ends at e has used so far, and of all
-- positions from i on where runs of Y, and of X, end early, and where X takes a character.
pub record Gathered (X Y : ℕ → Block) (U W i e row used quit own-quit own-moved : ℕ) : Type 0 where
  pub row_is : Exactly row (λ j. PadPath X Y U W i j)
  pub used_is : Exactly used (Used X Y U W i e)
  pub quit_is : Exactly quit (λ j. From i (λ h. Quits Y X W U j h))
  pub own_quit_is : Exactly own-quit (Seen i (Quits X Y U W))
  pub own_moved_is : Exactly own-moved (Seen i (Takes X Y U W))
