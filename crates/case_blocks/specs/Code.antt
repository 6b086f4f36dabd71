-- A shape's numbers, block after block: laid with both cases of each letter, and an output cut with them.
use Rattle.std.specs.Prelude.{◌≡◌, List, ℕ, ◌*◌, ◌≤◌, ◌<◌, length, get_or}
use Rattle.shapes.specs.Shape.{block_size}
use Rattle.shapes.specs.Lent.{block_at}
use Rattle.case_blocks.specs.Case.{Widened, cut_block}

-- The first n blocks of w' are those of xs with both cases.
pub record WidenedTo (xs : List ℕ) (n : ℕ) (w w' : List ℕ) : Type 0 where
  pub long : length w' ≡ length w
  pub blocks : (i : ℕ) → i < n → Widened (block_at xs i) (block_at w' i)

-- The first n blocks of the output are cut with those of xs; the numbers past them are as they were.
pub record CutTo (xs : List ℕ) (n : ℕ) (o o' : List ℕ) : Type 0 where
  pub long : length o' ≡ length o
  pub blocks : (i : ℕ) → i < n → block_at o' i ≡ cut_block (block_at xs i) (block_at o i)
  pub kept : (k : ℕ) → n * block_size ≤ k → get_or o' k 0 ≡ get_or o k 0
