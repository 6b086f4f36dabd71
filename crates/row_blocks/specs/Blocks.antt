-- What sets of positions tell of a block b that starts at position p: `quit`, where its run may end early, and `moved`,
-- where it takes a character.
use Rattle.std.specs.Prelude.{◌≡◌, List, ℕ, ◌+◌, ◌*◌, ◌≤◌, ◌<◌, length, get_or, take}
use Rattle.std.specs.Int.Bits.{bit_and}
use Rattle.bases.specs.Base.{Holds}
use Rattle.shapes.specs.Shape.{Block, total, block_size}
use Rattle.shapes.specs.Lent.{shape_of, block_at}
use Rattle.sets.specs.declared.Set.{Set}
use Rattle.rows.specs.Row.{row_in}

-- The run can have length n: it ends early there, or takes all that the block allows; or the block allows none.
pub data LengthBy (quit moved p : ℕ) (b : Block) (n : ℕ) : Type 0 where
  early : n < b.upper → Holds quit (p + n) → LengthBy quit moved p b n
  full : (k : ℕ) → n ≡ k + 1 → n ≡ b.upper → Holds moved (p + k) → LengthBy quit moved p b n
  bare : b.upper ≡ 0 → n ≡ 0 → LengthBy quit moved p b n

-- h has the characters of the base that are among `chars`, and the least and greatest length.
pub record ToldBy (chars quit moved p : ℕ) (b h : Block) : Type 0 where
  pub base : h.base ≡ bit_and b.base chars
  pub shortest : LengthBy quit moved p b h.lower
  pub not_shorter : (n : ℕ) → LengthBy quit moved p b n → h.lower ≤ n
  pub longest : LengthBy quit moved p b h.upper
  pub not_longer : (n : ℕ) → LengthBy quit moved p b n → n ≤ h.upper

-- The run has some length.
abbrev pub AnyLength : ℕ → ℕ → ℕ → Block → Type 0
AnyLength quit moved p b = (k : ℕ) × LengthBy quit moved p b k

-- Each of the first n blocks has some length.
abbrev pub SomeLength : ℕ → ℕ → List ℕ → ℕ → Type 0
SomeLength quit moved xs n = (i : ℕ) → i < n → AnyLength quit moved (total (take i (shape_of xs))) (block_at xs i)

-- The first n blocks of the output are what is told of them, with row i of `chars` for block i; the numbers past block
-- n are as they were.
pub record ToldTo (chars : List Set) (quit moved : ℕ) (xs : List ℕ) (n : ℕ) (o o' : List ℕ) : Type 0 where
  pub long : length o' ≡ length o
  pub blocks : (i : ℕ) → i < n → ToldBy (row_in chars i) quit moved (total (take i (shape_of xs))) (block_at xs i) (block_at o' i)
  pub kept : (k : ℕ) → n * block_size ≤ k → get_or o' k 0 ≡ get_or o k 0
