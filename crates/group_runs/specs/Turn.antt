-- What the inner functions of the run by groups answer.
use Rattle.std.specs.Prelude.{◌≡◌, List, ℕ, ◌+◌}
use Rattle.answers.specs.declared.Ended.{Ended}
use Rattle.answers.specs.declared.TextRan.{TextRan}
use Rattle.rules.specs.declared.Rule.{Rule}
use Rattle.rules.specs.Rule.{numbers_of_all}
use Rattle.book_runs.specs.Runner.{RunLeft}
use Rattle.groups.specs.Own.{OwnRules}
use Rattle.groups.specs.Ends.{text_ran}
use Rattle.group_names.specs.Names.{name_of}

-- the run of the group g over the numbers xs, which it leaves as ys
pub record GroupEnded (counts rules : List ℕ) (g : ℕ) (xs ys : List ℕ) (r : Ended) : Type 0 where
  pub own : List Rule
  pub picked : OwnRules rules g own
  pub ended : RunLeft counts (numbers_of_all own) xs ys r

-- the turn of text k + 1: it names its group, and the group is run; or its record is that of the text that does
pub data Turn (counts rules names : List ℕ) (k : ℕ) (xs ys : List ℕ) (ts : List TextRan) (e : TextRan) : Type 0 where
  runs : name_of names (k + 1) ≡ k + 1 → e.group ≡ k + 1 → GroupEnded counts rules (k + 1) xs ys e.ended → Turn counts rules names k xs ys ts e
  follows : (name_of names (k + 1) ≡ k + 1 → ⊥) → ys ≡ xs → e ≡ text_ran ts (name_of names (k + 1)) → Turn counts rules names k xs ys ts e
