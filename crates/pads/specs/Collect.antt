-- What the pairs of fillings with one text, but for padding, give to a block b of the first shape, told by paths.
-- X and Y say what the shapes allow at each position up to their ends U and W; b starts at position p.
use Rattle.std.specs.Prelude.{◌≡◌, ℕ, ◌+◌, ◌≤◌, ◌<◌}
use Rattle.bases.specs.Base.{Holds, Meets}
use Rattle.shapes.specs.Shape.{Block}
use Rattle.pads.specs.Pad.{PadPath, after}

-- Some pair has the character c in the run.
pub record Passes (X Y : ℕ → Block) (U W p : ℕ) (b : Block) (c : ℕ) : Type 0 where
  pub before : ℕ
  pub other : ℕ
  pub room : before < b.upper
  pub reached : PadPath X Y (p + before) other 0 0
  pub own : Holds b.base c
  pub others : Holds (Y other).base c
  pub on : PadPath X Y U W (p + before + 1) (after Y other)

-- Some pair has a run of length n: it is empty, or its last character tells.
pub data Ends (X Y : ℕ → Block) (U W p : ℕ) (b : Block) (n : ℕ) : Type 0 where
  empty : (j : ℕ) → b.lower ≡ 0 → n ≡ 0 → PadPath X Y p j 0 0 → PadPath X Y U W (p + b.upper) j → Ends X Y U W p b n
  filled : (k j : ℕ) → n ≡ k + 1 → k < b.upper → b.lower ≤ n → PadPath X Y (p + k) j 0 0 → Meets b.base (Y j).base
      → PadPath X Y U W (p + b.upper) (after Y j) → Ends X Y U W p b n

-- h is the block of those runs.
pub record Collected (X Y : ℕ → Block) (U W p : ℕ) (b h : Block) : Type 0 where
  pub held : (c : ℕ) → Holds h.base c → Passes X Y U W p b c
  pub all_held : (c : ℕ) → Passes X Y U W p b c → Holds h.base c
  pub shortest : Ends X Y U W p b h.lower
  pub not_shorter : (n : ℕ) → Ends X Y U W p b n → h.lower ≤ n
  pub longest : Ends X Y U W p b h.upper
  pub not_longer : (n : ℕ) → Ends X Y U W p b n → n ≤ h.upper
