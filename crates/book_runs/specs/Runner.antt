-- What the rounds answer.
use Rattle.std.specs.Prelude.{◌≡◌, false, List, ℕ}
use Rattle.shapes.specs.Shape.{Block}
use Rattle.shapes.specs.Lent.{shape_of, words_of}
use Rattle.hulls.specs.Hull.{none, shapes}
use Rattle.rules.specs.Rule.{rule_count}
use Rattle.answers.specs.declared.Ended.{Ended}
use Rattle.answers.specs.declared.Ended.TheVariants.{Stable as is-stable, None as is_none}
use Rattle.books.specs.Rules.{rule_of}
use Rattle.book_runs.specs.Rounds.{Rounds, BookRun}

-- all rounds
abbrev pub EndedSays : List ℕ → List ℕ → List ℕ → List ℕ → Ended → Type 0
EndedSays counts rules xs ys (is-stable m) = Rounds (rule_count rules) (rule_of counts rules) (shape_of xs) 0 false (shapes (shape_of ys)) m
EndedSays counts rules xs ys (is_none m) = Rounds (rule_count rules) (rule_of counts rules) (shape_of xs) 0 false none m

-- the run of an accepted book, xs and ys being the numbers of its blocks before and after
abbrev pub RunLeft : List ℕ → List ℕ → List ℕ → List ℕ → Ended → Type 0
RunLeft counts rules xs ys (is-stable m) = (final : List Block) × BookRun counts xs rules (shapes final) m × (ys ≡ words_of final)
RunLeft counts rules xs ys (is_none m) = BookRun counts xs rules none m × (ys ≡ xs)
