-- What the inner functions of the check answer.
use Rattle.std.specs.Prelude.{◌≡◌, List, ℕ, ◌+◌, ◌*◌, ◌≤◌, length, take, drop, Result}
use Rattle.answers.specs.Turns.{TurnChecked}
use Rattle.answers.specs.declared.Refusal.{Refusal}
use Rattle.rules.specs.declared.Rule.{Rule}
use Rattle.plain.specs.All.{All}
use Rattle.shapes.specs.Shape.{Block, block_size, most_blocks}
use Rattle.shapes.specs.Lent.{shape_of}
use Rattle.rules.specs.Limits.{most_texts}
use Rattle.books.specs.declared.Range.{Range}
use Rattle.books.specs.Counts.{sum_of, RightCount, count_of, first_of}
use Rattle.books.specs.Refused.{SoundTexts, each_text_turn, of_rule, each_rule}

-- where text k stands among the numbers of all, and that it stands within them
pub record RangeOf (counts : List ℕ) (k : ℕ) (r : Range) : Type 0 where
  pub from : r.from ≡ first_of counts k * block_size
  pub to : r.to ≡ r.from + count_of counts k * block_size
  pub within : r.to ≤ sum_of counts * block_size
  pub few : count_of counts k ≤ most_blocks

-- every text is sound, or the first that is not is told
abbrev pub TextsChecked : List ℕ → List Block → Result Unit Refusal → Type 0
TextsChecked counts S = TurnChecked (each_text_turn counts S)

-- the counts are right and every text is sound: what is known once the rules are looked at
pub record KnownTexts (counts blocks : List ℕ) : Type 0 where
  pub each : All RightCount counts
  pub few_texts : length counts ≤ most_texts
  pub whole_blocks : length blocks ≡ sum_of counts * block_size
  pub texts : SoundTexts counts (shape_of blocks)

-- rule number i is sound, or its one refusal is told
abbrev pub RuleChecked : List ℕ → List Block → ℕ → Rule → Result Unit Refusal → Type 0
RuleChecked counts S i t = TurnChecked (of_rule counts S i t)

-- every rule is sound, or the first that is not is told
abbrev pub RulesChecked : List ℕ → List Block → List ℕ → Result Unit Refusal → Type 0
RulesChecked counts S rules = TurnChecked (each_rule counts S rules)

-- the numbers of text k, of those lent for all
abbrev pub numbers_in : List ℕ → List ℕ → ℕ → List ℕ
numbers_in counts xs k = take (count_of counts k * block_size) (drop (first_of counts k * block_size) xs)
