-- What the inner functions of reading a file answer.
use Rattle.std.specs.Prelude.{◌≡◌, List, ◌∷◌, ◌++◌, ℕ, ◌*◌, ◌^◌, ◌≤◌, ◌<◌, length, get_or, take, drop, Option, Some, None}
use Rattle.file_numerals.specs.Digits.{digits, decimal}
use Rattle.file_numerals.specs.Read.{word_digits}
use Rattle.plain.specs.All.{All}
use Rattle.rules.specs.declared.Rule.{Rule}
use Rattle.sets.specs.declared.Set.{Set}
use Rattle.sets.specs.Set.{set_of}
use Rattle.shapes.specs.declared.Block.{Block}
use Rattle.shapes.specs.Lent.{meant}
use Rattle.file_lines.specs.declared.Width.{Width}
use Rattle.file_lines.specs.Grammar.{Writable, RightBlock, RuleInGrammar, two_numbers, block_line, rule_line, head_line}

-- no byte of t is b
abbrev pub Without : ℕ → List ℕ → Type 0
Without b t = All (λ (c : ℕ). c ≡ b → ⊥) t

-- b stands first at place i
pub record First (b : ℕ) (t : List ℕ) (i : ℕ) : Type 0 where
  pub within : i < length t
  pub there : get_or t i 0 ≡ b
  pub before : Without b (take i t)

abbrev pub FoundIn : ℕ → List ℕ → Option ℕ → Type 0
FoundIn b t (Some i) = First b t i
FoundIn b t None = Without b t

-- t is what `text` makes of x, and x is right
abbrev pub Says : {X : Type 0} → (X → Type 0) → (X → List ℕ) → List ℕ → X → Type 0
Says Right text t x = Right x × (t ≡ text x)

abbrev pub SaysNone : {X : Type 0} → (X → Type 0) → (X → List ℕ) → List ℕ → Type 0
SaysNone {X} Right text t = (x : X) → Right x → t ≡ text x → ⊥

-- t begins with what `text` makes of x, and x is right; then comes the byte b, which ends at place m
pub record Opens {X : Type 0} (b : ℕ) (Right : X → Type 0) (text : X → List ℕ) (t : List ℕ) (x : X) (m : ℕ) : Type 0 where
  pub right : Right x
  pub within : m ≤ length t
  pub split : t ≡ text x ++ b ∷ drop m t

abbrev pub OpensNone : {X : Type 0} → ℕ → (X → Type 0) → (X → List ℕ) → List ℕ → Type 0
OpensNone {X} b Right text t = (x : X) (after : List ℕ) → Right x → t ≡ text x ++ b ∷ after → ⊥

abbrev pub HeadRead : List ℕ → ℕ → List ℕ → Option ℕ → Type 0
HeadRead word most t (Some n) = Says (λ (m : ℕ). m ≤ most) (head_line word) t n
HeadRead word most t None = SaysNone (λ (m : ℕ). m ≤ most) (head_line word) t

-- a number and the blank after it
abbrev pub NumberFirst : List ℕ → ℕ → ℕ → Type 0
NumberFirst t n m = Opens 32 Writable decimal t n m

abbrev pub NumberRead : List ℕ → Option (ℕ × ℕ) → Type 0
NumberRead t (Some p) = NumberFirst t p.0 p.1
NumberRead t None = OpensNone 32 Writable decimal t

abbrev pub TwoRead : List ℕ → Option (ℕ × ℕ) → Type 0
TwoRead t (Some p) = Writable p.0 × Writable p.1 × (t ≡ two_numbers p.0 p.1)
TwoRead t None = (a b : ℕ) → Writable a → Writable b → t ≡ two_numbers a b → ⊥

abbrev pub RuleRead : List ℕ → Option Rule → Type 0
RuleRead t (Some r) = Says RuleInGrammar rule_line t r
RuleRead t None = SaysNone RuleInGrammar rule_line t

-- the digits of n words
abbrev pub BaseRead : ℕ → List ℕ → Option Set → Type 0
BaseRead n t (Some s) = (set_of s < 2 ^ (n * 64)) × (t ≡ digits 16 (n * word_digits) (set_of s))
BaseRead n t None = (b : ℕ) → t ≡ digits 16 (n * word_digits) b → ⊥

abbrev pub BlockRead : Width → List ℕ → Option Block → Type 0
BlockRead w t (Some b) = Says (RightBlock w) (block_line w) t (meant b)
BlockRead w t None = SaysNone (RightBlock w) (block_line w) t
