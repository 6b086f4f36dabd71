-- Document 02, order 1: what can be wrong with a block, and the refusal that is due of one that is not sound.
use Rattle.std.specs.Prelude.{◌≡◌, List, [], ◌∷◌, ℕ, ◌<◌, Result}
use Rattle.answers.specs.Told.{Told, tell}
use Rattle.answers.specs.Turns.{Turn, FirstDue, in_turn, TurnChecked, forbid}
use Rattle.answers.specs.declared.Refusal.{Refusal}
use Rattle.bases.specs.Base.{Empty}
use Rattle.shapes.specs.Shape.{Block, Sound}

-- The counts are crossed: lower above upper.
abbrev pub Crossed : Block → Type 0
Crossed b = b.upper < b.lower

-- The upper is too large: above 250.
abbrev pub TooLarge : Block → Type 0
TooLarge b = 250 < b.upper

-- Base and upper disagree: a base empty with upper over 0, or filled with upper 0.
pub data Disagree (b : Block) : Type 0 where
  empty : Empty b.base → 0 < b.upper → Disagree b
  filled : (Empty b.base → ⊥) → b.upper ≡ 0 → Disagree b

-- Refusals 2, 10 and 11, tried in this order, of block number i of shape number n.
abbrev pub block_turns : ℕ → ℕ → Block → List Turn
block_turns n i b = forbid (Crossed b) (tell 2 n i) ∷ forbid (TooLarge b) (tell 10 n i) ∷ forbid (Disagree b) (tell 11 n i) ∷ []

abbrev pub of_block : ℕ → ℕ → Block → Turn
of_block n i b = in_turn (Sound b) (block_turns n i b)

abbrev pub BlockRefused : ℕ → ℕ → Block → Told → Type 0
BlockRefused n i b = FirstDue (block_turns n i b)

-- What the check of a block answers: sound, or the one refusal that is due.
abbrev pub BlockChecked : ℕ → ℕ → Block → Result Unit Refusal → Type 0
BlockChecked n i b = TurnChecked (of_block n i b)
