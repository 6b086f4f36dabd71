-- Equality's second pass: rows from the ends, one after the other, and what the two shapes' blocks are given on the
-- way.
use Rattle.std.specs.Prelude.{◌≡◌, List, ℕ, ◌+◌, ◌≤◌, ◌<◌, length, get_or, take}
use Rattle.sets.specs.declared.Set.{Set}
use Rattle.sets.specs.Set.{set_of, Exactly}
use Rattle.shapes.specs.Shape.{Block, no_block, total, block_count}
use Rattle.shapes.specs.Lent.{shape_of}
use Rattle.pads.specs.Pad.{PadPath, padded_at, UpToEnd}
use Rattle.rows.specs.Row.{row_in}
use Rattle.row_paths.specs.Rows.{Quits, Takes, From, Seen, Gives}
use Rattle.back_rows.specs.declared.Gathered.{Gathered}
use Rattle.back_rows.specs.Rows.{GatheredAt}

-- The same, but for what is used.
pub record Fresh (g r : Gathered) : Type 0 where
  pub row : set_of r.row ≡ set_of g.row
  pub used : set_of r.used ≡ 0
  pub quit : set_of r.quit ≡ set_of g.quit
  pub stops : set_of r.stops ≡ set_of g.stops
  pub takes : set_of r.takes ≡ set_of g.takes

-- What is gathered at the end U of each X beside the shape y, each with the padding behind it: the padding is as a
-- block of one character.
pub record EndBack (pad : ℕ) (y : List ℕ) (U f : ℕ) (r : Gathered) : Type 0 where
  pub holds : (X : ℕ → Block) → UpToEnd X U → (X U).base ≡ pad → ((h : ℕ) → (X h).lower ≡ 0 → h < U) → Exactly f (λ j. PadPath X (padded_at pad (shape_of y)) U j 0 0)
      → GatheredAt X (padded_at pad (shape_of y)) U (total (shape_of y)) U (U + 1) r

-- Room for the rows of both.
pub record Roomed (x y : List ℕ) (mines rows own others : List Set) : Type 0 where
  pub mines_long : block_count x ≤ length mines
  pub rows_long : total (shape_of x) < length rows
  pub own_long : block_count x ≤ length own
  pub others_long : block_count y ≤ length others

-- X and Y with the padding behind them, and their ends.
abbrev pub ReadBoth : ℕ → ((ℕ → Block) → (ℕ → Block) → ℕ → ℕ → Type 0) → List ℕ → List ℕ → Type 0
ReadBoth pad P x y = P (padded_at pad (shape_of x)) (padded_at pad (shape_of y)) (total (shape_of x)) (total (shape_of y))

-- The characters that pairs give to block h of x, at positions of y from l on.
abbrev pub GivesTo : ℕ → List ℕ → List ℕ → ℕ → ℕ → ℕ → Type 0
GivesTo pad x y h l c = ReadBoth pad (λ X Y U W. Gives X Y U W (total (take h (shape_of x))) (total (take h (shape_of x)) + (get_or (shape_of x) h no_block).upper) l c) x y

-- The blocks of x from block i on, which starts at p: what is gathered, the characters of each of them, and those of
-- the blocks of y.
pub record PassFrom (pad : ℕ) (x y : List ℕ) (i p : ℕ) (g : Gathered) (moved : ℕ) (own others : List Set) : Type 0 where
  pub place : p ≡ total (take i (shape_of x))
  pub stage : ℕ
  pub gathered : ReadBoth pad (λ X Y U W. GatheredAt X Y U W p stage g) x y
  pub moved_is : ReadBoth pad (λ X Y U W. Exactly moved (λ j. From p (λ h. Takes Y X W U j h))) x y
  pub own_is : (h : ℕ) → i ≤ h → h < block_count x → Exactly (row_in own h) (GivesTo pad x y h 0)
  pub others_are : (j : ℕ) → j < block_count y → Exactly (row_in others j) (GivesTo pad y x j p)

-- What sets of positions tell of the shape x beside y: where its runs end early, where it takes a character, and each
-- block's characters.
pub record SideTold (pad : ℕ) (x y : List ℕ) (quit moved : ℕ) (chars : List Set) : Type 0 where
  pub quits : ReadBoth pad (λ X Y U W. Exactly quit (Seen 0 (Quits X Y U W))) x y
  pub moves : ReadBoth pad (λ X Y U W. Exactly moved (Seen 0 (Takes X Y U W))) x y
  pub gives : (h : ℕ) → h < block_count x → Exactly (row_in chars h) (GivesTo pad x y h 0)
