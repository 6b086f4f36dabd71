-- Two books that hold the same texts, under whatever numbers, and the same rules of them: `E k l` says that text k of
-- the one is text l of the other.
use Rattle.std.specs.Prelude.{◌≡◌, List, ℕ, ◌<◌}
use Rattle.rules.specs.declared.Rule.{Rule}
use Rattle.rules.specs.Rule.{rule_at, rule_count}
use Rattle.texts.specs.Kind.{join_kind}
use Rattle.shapes.specs.Shape.{Block}
use Rattle.hulls.specs.Hull.{Outcome, none, shapes}
use Rattle.books.specs.Counts.{count_of, shape_in}
use Rattle.books.specs.Rules.{Names}

-- The numbers are those of texts, of as many blocks, and one to one.
pub record Paired (E : ℕ → ℕ → Type 0) (counts others : List ℕ) : Type 0 where
  pub named : {k l : ℕ} → E k l → Names counts k
  pub named_other : {k l : ℕ} → E k l → Names others l
  pub count : {k l : ℕ} → E k l → count_of counts k ≡ count_of others l
  pub onward : {k l i j : ℕ} → E k l → E i j → k ≡ i → l ≡ j
  pub back : {k l i j : ℕ} → E k l → E i j → l ≡ j → k ≡ i

-- The texts have the same shapes.
pub record Alike (E : ℕ → ℕ → Type 0) (counts others : List ℕ) (S T : List Block) : Type 0 where
  pub each : {k l : ℕ} → E k l → shape_in counts S k ≡ shape_in others T l

-- A rule of the one is a rule of the other.
pub record RuleAlike (E : ℕ → ℕ → Type 0) (t u : Rule) : Type 0 where
  pub kind : t.kind ≡ u.kind
  pub first : E t.a u.a
  pub second : E t.b u.b
  pub third : t.kind ≡ join_kind → E t.c u.c

-- The same rules, in the same order.
pub record RulesAlike (E : ℕ → ℕ → Type 0) (rules others : List ℕ) : Type 0 where
  pub as_many : rule_count rules ≡ rule_count others
  pub each : (j : ℕ) → j < rule_count rules → RuleAlike E (rule_at rules j) (rule_at others j)

-- The same verdict, and the same shapes of the texts.
abbrev pub OutcomeAlike : (ℕ → ℕ → Type 0) → List ℕ → List ℕ → Outcome → Outcome → Type 0
OutcomeAlike E counts others none none = Unit
OutcomeAlike E counts others none (shapes T) = ⊥
OutcomeAlike E counts others (shapes S) none = ⊥
OutcomeAlike E counts others (shapes S) (shapes T) = Alike E counts others S T
