-- What the functions that name groups promise.
use Rattle.std.specs.Prelude.{◌≡◌, List, ℕ, ◌+◌, ◌-◌, ◌≤◌, ◌<◌, length, get_or}
use Rattle.rules.specs.Limits.{most_texts}
use Rattle.rules.specs.declared.Rule.{Rule}
use Rattle.rules.specs.Rule.{rule_at, rule_count}
use Rattle.texts.specs.Kind.{join_kind}
use Rattle.groups.specs.Linked.{NamedBy, GroupOf}

-- k can be the number of a text.
pub record TextNumber (k : ℕ) : Type 0 where
  pub from_one : 1 ≤ k
  pub most : k ≤ most_texts

-- A rule names such numbers only; and so do all rules.
pub record TextNumbers (t : Rule) : Type 0 where
  pub each : (k : ℕ) → NamedBy t k → TextNumber k

pub record RulesOfTexts (rules : List ℕ) : Type 0 where
  pub each : (j : ℕ) → j < rule_count rules → TextNumbers (rule_at rules j)

-- The name of text k.
abbrev pub name_of : List ℕ → ℕ → ℕ
name_of names k = get_or names (k - 1) 0

-- Each text is named by itself.
pub record FirstNames (names : List ℕ) : Type 0 where
  pub size : length names ≡ most_texts
  pub each : (i : ℕ) → i < most_texts → get_or names i 0 ≡ i + 1

-- What is named `from` is named `to`, and what is not keeps its name.
pub record NewName (from to name r : ℕ) : Type 0 where
  pub given : name ≡ from → r ≡ to
  pub left : (name ≡ from → ⊥) → r ≡ name

-- So for every text.
pub record Renamed (from to : ℕ) (names names' : List ℕ) : Type 0 where
  pub size : length names' ≡ length names
  pub each : (i : ℕ) → i < most_texts → NewName from to (get_or names i 0) (get_or names' i 0)

-- The groups of a and b have one name, the lower of the two.
pub data OneName (a b : ℕ) (names names' : List ℕ) : Type 0 where
  down : name_of names a ≤ name_of names b → Renamed (name_of names b) (name_of names a) names names' → OneName a b names names'
  up : name_of names b ≤ name_of names a → Renamed (name_of names a) (name_of names b) names names' → OneName a b names names'

-- So have those of a rule's texts.
pub data RuleLinked (t : Rule) (names names' : List ℕ) : Type 0 where
  two : (t.kind ≡ join_kind → ⊥) → OneName t.a t.b names names' → RuleLinked t names names'
  three : t.kind ≡ join_kind → (mid : List ℕ) → OneName t.a t.b names mid → OneName t.a t.c mid names' → RuleLinked t names names'

-- Each text's group is named.
pub record GroupNames (rules names : List ℕ) : Type 0 where
  pub size : length names ≡ most_texts
  pub each : (k : ℕ) → TextNumber k → GroupOf rules k (name_of names k)
