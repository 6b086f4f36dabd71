-- Document 01, "Numbers given back", and document 02, order 3: for a book 6; then those of the texts' blocks, text by
-- text; 7 and 12 rule by rule; 4.
use Rattle.std.specs.Prelude.{List, [], ◌∷◌, ℕ, ◌+◌, ◌≤◌, ◌<◌, length, Result}
use Rattle.answers.specs.Told.{Told, tell}
use Rattle.answers.specs.Turns.{Turn, FirstDue, in_turn, TurnChecked, need}
use Rattle.answers.specs.declared.Refusal.{Refusal}
use Rattle.rules.specs.declared.Rule.{Rule}
use Rattle.rules.specs.Rule.{rule_at, rule_count}
use Rattle.answers.specs.FirstBad.{FirstRefused, one_by_one}
use Rattle.shapes.specs.Shape.{Block}
use Rattle.shapes.specs.Lent.{shape_of, blocks_turns, BlocksRefused}
use Rattle.books.specs.Counts.{RightCounts, shape_in, SoundText}
use Rattle.books.specs.Rules.{Names, RightRule, Joinable}

-- A rule is right, and if it joins, what it joins is short enough.
pub record SoundRule (counts : List ℕ) (S : List Block) (t : Rule) : Type 0 where
  pub right : RightRule counts t
  pub joinable : Joinable counts S t

-- Every text has a sound shape; and every rule is sound.
pub record SoundTexts (counts : List ℕ) (S : List Block) : Type 0 where
  pub each : (k : ℕ) → Names counts k → SoundText counts S k

pub record SoundRules (counts : List ℕ) (S : List Block) (rules : List ℕ) : Type 0 where
  pub each : (j : ℕ) → j < rule_count rules → SoundRule counts S (rule_at rules j)

-- Text k is the first that has no sound shape, and this is what it is told: the text's number, and a block within its
-- own shape.
abbrev pub FirstText : List ℕ → List Block → ℕ → Told → Type 0
FirstText counts S k t = FirstRefused (length counts) (λ i. SoundText counts S (i + 1)) (λ i. BlocksRefused (i + 1) (shape_in counts S (i + 1))) k t

-- The texts, one by one.
abbrev pub of_text : List ℕ → List Block → ℕ → Turn
of_text counts S k = in_turn (SoundText counts S k) (blocks_turns k (shape_in counts S k))

abbrev pub each_text_turn : List ℕ → List Block → Turn
each_text_turn counts S = one_by_one (SoundTexts counts S) (length counts) (λ i. of_text counts S (i + 1))

-- Refusals 7 and 12, tried in this order, of rule number i.
abbrev pub rule_turns : List ℕ → List Block → ℕ → Rule → List Turn
rule_turns counts S i t = need (RightRule counts t) (tell 7 0 i) ∷ need (Joinable counts S t) (tell 12 0 i) ∷ []

abbrev pub RuleRefused : List ℕ → List Block → ℕ → Rule → Told → Type 0
RuleRefused counts S i t = FirstDue (rule_turns counts S i t)

abbrev pub of_rule : List ℕ → List Block → ℕ → Rule → Turn
of_rule counts S i t = in_turn (SoundRule counts S t) (rule_turns counts S i t)

abbrev pub each_rule : List ℕ → List Block → List ℕ → Turn
each_rule counts S rules = one_by_one (SoundRules counts S rules) (rule_count rules) (λ j. of_rule counts S (j + 1) (rule_at rules j))

-- Rule number i, from 1, is the first that is not sound, and this is what is told of it.
abbrev pub FirstRule : List ℕ → List Block → List ℕ → ℕ → Told → Type 0
FirstRule counts S rules i u = FirstRefused (rule_count rules) (λ j. SoundRule counts S (rule_at rules j)) (λ j. RuleRefused counts S (j + 1) (rule_at rules j)) i u

-- The refusals of a book, for a work buffer of `work` bytes.
abbrev pub book_turns : List ℕ → List ℕ → List ℕ → ℕ → List Turn
book_turns counts blocks rules work =
    need (RightCounts counts blocks rules) (tell 6 0 0)
    ∷ each_text_turn counts (shape_of blocks) ∷ each_rule counts (shape_of blocks) rules
    ∷ need (63001 ≤ work) (tell 4 0 0) ∷ []

abbrev pub BookRefused : List ℕ → List ℕ → List ℕ → ℕ → Told → Type 0
BookRefused counts blocks rules work = FirstDue (book_turns counts blocks rules work)

-- Otherwise the book is accepted.
pub record BookAccepted (counts blocks rules : List ℕ) (work : ℕ) : Type 0 where
  pub counted : RightCounts counts blocks rules
  pub texts : SoundTexts counts (shape_of blocks)
  pub right : SoundRules counts (shape_of blocks) rules
  pub room : 63001 ≤ work

abbrev pub of_lent_book : List ℕ → List ℕ → List ℕ → ℕ → Turn
of_lent_book counts blocks rules work = in_turn (BookAccepted counts blocks rules work) (book_turns counts blocks rules work)

-- What the check of a book answers: accepted, or the one refusal that is due.
abbrev pub BookChecked : List ℕ → List ℕ → List ℕ → ℕ → Result Unit Refusal → Type 0
BookChecked counts blocks rules work = TurnChecked (of_lent_book counts blocks rules work)
