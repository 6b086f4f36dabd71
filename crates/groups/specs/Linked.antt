-- Document 02, order 11: "Texts linked by rules, directly or through others, form a group, named by its least text
-- number."
use Rattle.std.specs.Prelude.{◌≡◌, List, ℕ, ◌≤◌, ◌<◌}
use Rattle.rules.specs.declared.Rule.{Rule}
use Rattle.rules.specs.Rule.{rule_at, rule_count}
use Rattle.texts.specs.Kind.{join_kind}
use Rattle.books.specs.Rules.{Names}

-- The texts that a rule names: a and b, and in a join c. The fourth number of the other kinds names none.
pub data NamedBy (t : Rule) (k : ℕ) : Type 0 where
  first : t.a ≡ k → NamedBy t k
  second : t.b ≡ k → NamedBy t k
  third : t.kind ≡ join_kind → t.c ≡ k → NamedBy t k

-- Linked by the first n rules, directly or through others.
pub data LinkedBy (n : ℕ) (rules : List ℕ) : ℕ → ℕ → Type 0 where
  same : {k l : ℕ} → k ≡ l → LinkedBy n rules k l
  by : {k l m : ℕ} (j : ℕ) → j < n → NamedBy (rule_at rules j) k → NamedBy (rule_at rules j) l → LinkedBy n rules l m → LinkedBy n rules k m

-- Linked by the rules of a book.
abbrev pub Linked : List ℕ → ℕ → ℕ → Type 0
Linked rules = LinkedBy (rule_count rules) rules

-- The group of text k is named g, the least that is linked with k.
pub record GroupOf (rules : List ℕ) (k g : ℕ) : Type 0 where
  pub linked : Linked rules k g
  pub least : (l : ℕ) → Linked rules k l → g ≤ l

-- k is the number of a text, and its group is named g.
pub record TextOf (counts rules : List ℕ) (g k : ℕ) : Type 0 where
  pub named : Names counts k
  pub group : GroupOf rules k g
