-- Document 01, "Shapes and fillings", in the papers' terms (000 and 003: dashed strings, gamma).
use Rattle.std.specs.Prelude.{◌≡◌, List, [], ◌∷◌, ◌++◌, ℕ, ◌+◌, ◌*◌, ◌^◌, ◌≤◌, ◌<◌, length}
use Rattle.plain.specs.All.{All}
use Rattle.plain.specs.Items.{item_count}
use Rattle.bases.specs.Base.{Holds, Empty, base_words, codes}

-- A character is its code, a text a list of characters, a shape a list of blocks.
-- A block has a base, a lower and an upper count.
pub record Block : Type 0 where
  pub base : ℕ
  pub lower : ℕ
  pub upper : ℕ

-- Looked at only past the end of a list.
abbrev pub no_block : Block
no_block = record { base = 0; lower = 0; upper = 0 }

-- A block is sound if lower <= upper <= 250 and the base is empty exactly when upper is 0.
pub record Sound (b : Block) : Type 0 where
  pub ordered : b.lower ≤ b.upper
  pub small : b.upper ≤ 250
  pub filled : Empty b.base → b.upper ≡ 0
  pub bare : b.upper ≡ 0 → Empty b.base

-- Its base has only characters that there are.
abbrev pub Small : Block → Type 0
Small b = b.base < 2 ^ codes

-- A block is so many lent numbers: the words of its base, lower and upper. So many blocks are some numbers.
abbrev pub block_size : ℕ
block_size = base_words + 2

abbrev pub block_count : List ℕ → ℕ
block_count xs = item_count block_size xs

-- A shape is 1 to 32 blocks; a line of two shapes has room for twice as many.
abbrev pub most_blocks : ℕ
most_blocks = 32

abbrev pub line_blocks : ℕ
line_blocks = 2 * most_blocks

-- The uppers of a shape, added.
unfoldable pub total : List Block → ℕ
total [] = 0
total (b ∷ s) = b.upper + total s

-- A run of a block: some of its base's characters, of allowed length.
pub record Run (b : Block) (r : List ℕ) : Type 0 where
  pub held : All (Holds b.base) r
  pub enough : b.lower ≤ length r
  pub bounded : length r ≤ b.upper

-- A filling gives each block a run.
pub data Filling : List Block → List (List ℕ) → Type 0 where
  done : Filling [] []
  fill : {b : Block} {s : List Block} {r : List ℕ} {f : List (List ℕ)} → Run b r → Filling s f → Filling (b ∷ s) (r ∷ f)

-- Its text is the runs joined.
unfoldable pub text_of : List (List ℕ) → List ℕ
text_of [] = []
text_of (r ∷ f) = r ++ text_of f

-- A text fits a shape if some filling has that text (000's gamma).
pub record Fits (s : List Block) (t : List ℕ) : Type 0 where
  pub runs : List (List ℕ)
  pub filling : Filling s runs
  pub joined : text_of runs ≡ t
