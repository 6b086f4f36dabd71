-- What reading the rules to the end of a file answers.
use Rattle.std.specs.Prelude.{◌≡◌, Result, Ok, Err, List, [], ◌∷◌, ℕ, ◌+◌, ◌≤◌, length}
use Rattle.rules.specs.declared.Rule.{Rule}
use Rattle.rules.specs.Rule.{numbers_of_all}
use Rattle.file_lines.specs.declared.Heading.TheVariants.{Rules}
use Rattle.file_lines.specs.Grammar.{Part, Section, InGrammar, writing}
use Rattle.file_lines.specs.Book.{part, section}
use Rattle.files.specs.Departs.{Departs}
use Rattle.file_sections.specs.Parts.{AtFront}
use Rattle.rules.specs.Limits.{most_rules}
use Rattle.file_sections.specs.declared.Departs.{Departs as Stop}

-- the last section, and the last part of a file
abbrev pub last_grammar : List Section
last_grammar = section Rules most_rules ∷ []

abbrev pub last_part : List Rule → List Part
last_part rs = part Rules rs ∷ []

-- n rules, whose numbers stand at the front of the output, and nothing after them
pub record LastIs (bytes rs rs' : List ℕ) (n : ℕ) : Type 0 where
  pub rules : List Rule
  pub count : length rules ≡ n
  pub fits : InGrammar last_grammar (last_part rules)
  pub whole : bytes ≡ writing (last_part rules)
  pub stored : AtFront (numbers_of_all rules) rs rs'

-- (How many lines stand before the one that departs is bounded so that the line's number fits.)
abbrev pub LastRead : List ℕ → List ℕ → List ℕ → Result ℕ Stop → Type 0
LastRead bytes rs rs' (Ok n) = LastIs bytes rs rs' n
LastRead bytes rs rs' (Err d) = Departs last_grammar bytes (d.0 + 1) × (d.0 ≤ most_rules + 1)
