-- What the runner carries between two applications, and what one application does to it.
use Rattle.std.specs.Prelude.{◌≡◌, List, [], ◌∷◌, ℕ, ◌*◌, ◌≤◌, length}
use Rattle.rules.specs.declared.Rule.{Rule}
use Rattle.rules.specs.Rule.{rule_at, rule_count}
use Rattle.plain.specs.All.{All}
use Rattle.shapes.specs.Lent.{shape_of}
use Rattle.hulls.specs.Hull.{None, Hull}
use Rattle.laying.specs.Laid.{replaced}
use Rattle.books.specs.Counts.{sum_of, RightCount, first_of}
use Rattle.books.specs.Rules.{asks}
use Rattle.books.specs.Refused.{SoundTexts, SoundRules}
use Rattle.shapes.specs.Shape.{block_size}
use Rattle.rules.specs.Limits.{most_texts, most_rules}
use Rattle.book_steps.specs.declared.Applied.{Applied}
use Rattle.book_steps.specs.declared.Applied.TheVariants.{None as no-choice, Same, Changed}

-- Numbers so far: a sound shape for each text.
pub record Standing (counts xs : List ℕ) : Type 0 where
  pub size : length xs ≡ sum_of counts * block_size
  pub texts : SoundTexts counts (shape_of xs)

-- At most eight texts, each of a right number of blocks.
pub record Texts (counts xs : List ℕ) : Type 0 where
  pub each : All RightCount counts
  pub few : length counts ≤ most_texts
  pub standing : Standing counts xs

-- An accepted book with the numbers so far.
pub record Running (counts xs rules : List ℕ) : Type 0 where
  pub texts : Texts counts xs
  pub few_rules : rule_count rules ≤ most_rules
  pub right : SoundRules counts (shape_of xs) rules

-- New numbers of the texts ks laid over their old ones, text by text.
unfoldable pub laid_over : List ℕ → List ℕ → List (List ℕ) → List ℕ → List ℕ
laid_over counts [] news xs = xs
laid_over counts (k ∷ ks) [] xs = xs
laid_over counts (k ∷ ks) (x ∷ news) xs = laid_over counts ks news (replaced (first_of counts k * block_size) x xs)

-- One application of the rule t: the numbers before and after it.
abbrev pub RuleApplied : List ℕ → Rule → List ℕ → List ℕ → Applied → Type 0
RuleApplied counts t xs ys no-choice = None (asks counts t) (shape_of xs)
RuleApplied counts t xs ys Same = Hull (asks counts t) (shape_of xs) (shape_of xs) × (ys ≡ xs)
RuleApplied counts t xs ys Changed = Hull (asks counts t) (shape_of xs) (shape_of ys) × (shape_of ys ≡ shape_of xs → ⊥)

-- Of rule j, from 0.
abbrev pub AppliedSays : List ℕ → List ℕ → ℕ → List ℕ → List ℕ → Applied → Type 0
AppliedSays counts rules j xs ys r = RuleApplied counts (rule_at rules j) xs ys r
