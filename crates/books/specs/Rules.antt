-- Document 01, "A book and its run", and document 02, orders 3 and 5: a rule is (kind, a, b, c): 0 a equals b once
-- trailing blanks are dropped, 1 a at most b, 2 a before b, 3 a is b followed by c, 4 a equals b to the letter.
use Rattle.std.specs.Prelude.{◌≡◌, List, ◌++◌, ℕ, ◌+◌, ◌≤◌, ◌<◌, length}
use Rattle.rules.specs.declared.Rule.{Rule}
use Rattle.rules.specs.Rule.{rule_at, rule_count}
use Rattle.shapes.specs.Shape.{Block, text_of, total}
use Rattle.texts.specs.Kind.{relation_of, last_kind, join_kind}
use Rattle.hulls.specs.Book.{part}
use Rattle.books.specs.Counts.{count_of, first_of, shape_in}

-- k is the number of a text.
pub record Names (counts : List ℕ) (k : ℕ) : Type 0 where
  pub from_one : 1 ≤ k
  pub within : k ≤ length counts

-- The fourth number of a rule: in a join it names a third text, else it is 0.
pub data RightFourth (counts : List ℕ) (t : Rule) : Type 0 where
  joins : t.kind ≡ join_kind → Names counts t.c → (t.a ≡ t.c → ⊥) → (t.b ≡ t.c → ⊥) → RightFourth counts t
  unused : (t.kind ≡ join_kind → ⊥) → t.c ≡ 0 → RightFourth counts t

-- Otherwise refusal 7: the kind is a known one, a and b name texts, they are two, and the fourth number is right.
pub record RightRule (counts : List ℕ) (t : Rule) : Type 0 where
  pub known : t.kind ≤ last_kind
  pub first : Names counts t.a
  pub second : Names counts t.b
  pub two : t.a ≡ t.b → ⊥
  pub fourth : RightFourth counts t

-- Otherwise refusal 12: in a join the uppers of b and c, where S are the blocks of all texts, add to at most 250.
pub record Joinable (counts : List ℕ) (S : List Block) (t : Rule) : Type 0 where
  pub short : t.kind ≡ join_kind → total (shape_in counts S t.b) + total (shape_in counts S t.c) ≤ 250

-- What a rule asks of texts, `text k` being that of number k: the relation of its kind between the texts of a and b; in
-- a join, that the text of a is that of b followed by that of c.
pub data Keeps (t : Rule) (text : ℕ → List ℕ) : Type 0 where
  relates : relation_of t.kind (text t.a) (text t.b) → Keeps t text
  joins : t.kind ≡ join_kind → text t.a ≡ text t.b ++ text t.c → Keeps t text

-- The text of number k in a choice of one filling for each text, the runs of all texts end to end.
abbrev pub text_in : List ℕ → List (List ℕ) → ℕ → List ℕ
text_in counts f k = text_of (part (first_of counts k) (count_of counts k) f)

-- What a rule asks of such a choice.
abbrev pub asks : List ℕ → Rule → List (List ℕ) → Type 0
asks counts t f = Keeps t (text_in counts f)

-- The rules of a book, rule j from 0, as `Runs` takes them.
abbrev pub rule_of : List ℕ → List ℕ → ℕ → List (List ℕ) → Type 0
rule_of counts rules j = asks counts (rule_at rules j)

-- Each rule of one book occurs in the other, at whatever place there.
pub record AllIn (rules others : List ℕ) : Type 0 where
  pub each : (j : ℕ) → j < rule_count rules → (i : ℕ) × (i < rule_count others) × (rule_at rules j ≡ rule_at others i)
