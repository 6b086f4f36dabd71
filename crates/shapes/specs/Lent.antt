-- Document 01, "Shapes and fillings" and "Numbers given back": which shape some lent 64-bit numbers are, and why they
-- are refused (document 02, order 1).
use Rattle.std.specs.Prelude.{◌≡◌, List, [], ◌∷◌, ◌++◌, map, ℕ, ◌+◌, ◌/◌, ◌%◌, ◌≤◌, length, get_or, take, Result}
use Rattle.answers.specs.Told.{Told, tell}
use Rattle.answers.specs.Turns.{Turn, FirstDue, in_turn, TurnChecked, need}
use Rattle.answers.specs.declared.Refusal.{Refusal}
use Rattle.plain.specs.All.{All}
use Rattle.plain.specs.Items.{item_at, items_of, join_items}
use Rattle.bases.specs.Base.{Word, base_of, words_in, base_words}
use Rattle.sets.specs.Set.{set_of}
use Rattle.shapes.specs.declared.Block.{Block as Carried}
use Rattle.answers.specs.FirstBad.{FirstRefused, one_by_one}
use Rattle.shapes.specs.Shape.{Block, Sound, no_block, total, block_count, block_size, most_blocks}
use Rattle.shapes.specs.Wrong.{of_block, BlockRefused}

-- Lent numbers are 64-bit numbers.
abbrev pub Numbers : List ℕ → Type 0
Numbers xs = All Word xs

-- A block is the words of its base, lower and upper.
abbrev pub block_of : List ℕ → Block
block_of xs = record { base = base_of (take base_words xs); lower = get_or xs base_words 0; upper = get_or xs (base_words + 1) 0 }

abbrev pub block_numbers : Block → List ℕ
block_numbers b = words_in base_words b.base ++ (b.lower ∷ (b.upper ∷ []))

-- The block that one in the code means.
abbrev pub meant : Carried → Block
meant b = record { base = set_of b.base; lower = b.lower; upper = b.upper }

-- Block i, from 0, of lent numbers.
abbrev pub block_at : List ℕ → ℕ → Block
block_at xs i = block_of (item_at block_size xs i)

-- Block i is set to b, and nothing else is changed.
pub record Put (w : List ℕ) (i : ℕ) (b : Block) (w' : List ℕ) : Type 0 where
  pub long : length w' ≡ length w
  pub here : block_at w' i ≡ b
  pub kept : (p : ℕ) → (p / block_size ≡ i → ⊥) → get_or w' p 0 ≡ get_or w p 0

-- A shape is its blocks, one after the other.
unfoldable pub shape_of : List ℕ → List Block
shape_of xs = map block_of (items_of block_size (block_count xs) xs)

-- The numbers of a shape: what is lent back for it.
unfoldable pub words_of : List Block → List ℕ
words_of s = join_items (map block_numbers s)

-- The length is right: whole blocks, some of them, not over 32.
pub record RightLength (xs : List ℕ) : Type 0 where
  pub whole : length xs % block_size ≡ 0
  pub some : 1 ≤ block_count xs
  pub few : block_count xs ≤ most_blocks

-- Block number i, from 1, of shape number n is the first that is not sound, and this is what is told of it.
abbrev pub FirstBlock : ℕ → List Block → ℕ → Told → Type 0
FirstBlock n s i t = FirstRefused (length s) (λ j. Sound (get_or s j no_block)) (λ j. BlockRefused n (j + 1) (get_or s j no_block)) i t

-- Refusals 2, 10 and 11 at the first bad block, then 3, of the blocks of shape number n.
abbrev pub each_block : ℕ → List Block → Turn
each_block n s = one_by_one (All Sound s) (length s) (λ j. of_block n (j + 1) (get_or s j no_block))

abbrev pub blocks_turns : ℕ → List Block → List Turn
blocks_turns n s = each_block n s ∷ need (total s ≤ 250) (tell 3 n 0) ∷ []

abbrev pub BlocksRefused : ℕ → List Block → Told → Type 0
BlocksRefused n s = FirstDue (blocks_turns n s)

-- Refusal 1, then those of the blocks, of the numbers lent for shape number n.
abbrev pub shape_turns : ℕ → List ℕ → List Turn
shape_turns n xs = need (RightLength xs) (tell 1 n 0) ∷ blocks_turns n (shape_of xs)

abbrev pub ShapeRefused : ℕ → List ℕ → Told → Type 0
ShapeRefused n xs = FirstDue (shape_turns n xs)

-- Otherwise the numbers are accepted as a shape.
pub record Accepted (xs : List ℕ) : Type 0 where
  pub right : RightLength xs
  pub sound : All Sound (shape_of xs)
  pub short : total (shape_of xs) ≤ 250

abbrev pub of_shape : ℕ → List ℕ → Turn
of_shape n xs = in_turn (Accepted xs) (shape_turns n xs)

-- Numbers that are a shape of any number of blocks, whose uppers add to at most 250.
pub record Whole (xs : List ℕ) : Type 0 where
  pub blocks : length xs % block_size ≡ 0
  pub sound : All Sound (shape_of xs)
  pub short : total (shape_of xs) ≤ 250

-- What the check of some blocks, and of some lent numbers, answers: sound, or the one refusal that is due.
abbrev pub BlocksChecked : ℕ → List Block → Result Unit Refusal → Type 0
BlocksChecked n s = TurnChecked (in_turn (All Sound s × (total s ≤ 250)) (blocks_turns n s))

abbrev pub ShapeChecked : ℕ → List ℕ → Result Unit Refusal → Type 0
ShapeChecked n xs = TurnChecked (of_shape n xs)
