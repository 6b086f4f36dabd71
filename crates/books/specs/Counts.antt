-- Document 01, "A book and its run": the counts of a book, and where its texts stand in the blocks, which are lent end
-- to end.
use Rattle.std.specs.Prelude.{◌≡◌, List, [], ◌∷◌, ℕ, ◌+◌, ◌-◌, ◌*◌, ◌%◌, ◌≤◌, length, get_or, take, drop}
use Rattle.rules.specs.Rule.{rule_size, rule_count}
use Rattle.plain.specs.All.{All}
use Rattle.shapes.specs.Shape.{Block, Sound, total, block_size, most_blocks}
use Rattle.rules.specs.Limits.{most_texts, most_rules}

-- The block counts, added.
unfoldable pub sum_of : List ℕ → ℕ
sum_of [] = 0
sum_of (c ∷ cs) = c + sum_of cs

-- A block count is 1 to 32.
pub record RightCount (c : ℕ) : Type 0 where
  pub some : 1 ≤ c
  pub few : c ≤ most_blocks

-- Otherwise refusal 6: texts are 1 to 8, a block count is 1 to 32, the numbers given for blocks are those of the sum of
-- the counts, and the rules are whole fours and not over 16.
pub record RightCounts (counts blocks rules : List ℕ) : Type 0 where
  pub some_texts : 1 ≤ length counts
  pub few_texts : length counts ≤ most_texts
  pub each : All RightCount counts
  pub whole_blocks : length blocks ≡ sum_of counts * block_size
  pub whole_rules : length rules % rule_size ≡ 0
  pub few_rules : rule_count rules ≤ most_rules

-- Texts count from 1. Text k has as many blocks as its count says, and begins after the blocks of the texts before it.
abbrev pub count_of : List ℕ → ℕ → ℕ
count_of counts k = get_or counts (k - 1) 0

abbrev pub first_of : List ℕ → ℕ → ℕ
first_of counts k = sum_of (take (k - 1) counts)

-- The shape of text k, where S are the blocks of all texts.
abbrev pub shape_in : List ℕ → List Block → ℕ → List Block
shape_in counts S k = take (count_of counts k) (drop (first_of counts k) S)

-- The shape of text k is not refused by 2 or 3.
pub record SoundText (counts : List ℕ) (S : List Block) (k : ℕ) : Type 0 where
  pub sound : All Sound (shape_in counts S k)
  pub short : total (shape_in counts S k) ≤ 250
