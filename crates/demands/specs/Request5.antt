-- Document 02, order 5, a field for each sentence: equality of padded fields. To both calls the same shapes are lent; m
-- is the memory of the one on padded texts, n that of the exact one.
use Rattle.answers.specs.declared.Refusal.{Refusal}
use Rattle.std.specs.Prelude.{◌≡◌, List, [], ◌∷◌, ◌++◌, ◌⊎◌, ◌↔◌, ℕ, ◌+◌, ◌^◌, ◌≤◌, length, replicate, Result, Ok}
use Rattle.answers.specs.declared.Narrowed.{Narrowed}
use Rattle.answers.specs.declared.Swept.{Swept}
use Rattle.texts.specs.Padding.{blank, trimmed, Padded, BlanksBehind}
use Rattle.texts.specs.Kind.{relation_of, padded_kind, at_most_kind, before_kind, exact_kind}
use Rattle.rules.specs.declared.Rule.{Rule}
use Rattle.rules.specs.Rule.{rule_with}
use Rattle.hulls.specs.Book.{Within}
use Rattle.books.specs.Rules.{RightRule, Keeps}
use Rattle.demands.specs.Call.{Two, sweep, NarrowMemory, new_shape, HasRoom, narrow_padded, narrow_exact}

-- As lent: a1..1 and a blank, and a1..1 alone.
abbrev pub padded_field : List ℕ
padded_field = 0 ∷ 2 ^ 33 ∷ 0 ∷ 0 ∷ 1 ∷ 1 ∷ 2 ^ 32 ∷ 0 ∷ 0 ∷ 0 ∷ 1 ∷ 1 ∷ []

abbrev pub bare_field : List ℕ
bare_field = 0 ∷ 2 ^ 33 ∷ 0 ∷ 0 ∷ 1 ∷ 1 ∷ []

abbrev pub fields : Two
fields = record { x = padded_field; y = bare_field }

-- Kind k is an equality: of a text and itself, either way round,
-- and passed on; and texts that are equal to the letter are.
pub record Equality (k : ℕ) : Type 0 where
  pub reflexive : (t : List ℕ) → relation_of k t t
  pub symmetric : (t u : List ℕ) → relation_of k t u → relation_of k u t
  pub transitive : (t u v : List ℕ) → relation_of k t u → relation_of k u v → relation_of k t v
  pub equal_texts : (t u : List ℕ) → relation_of exact_kind t u → relation_of k t u

-- The pairs of kind 4 are among those of another: a none of that
-- one is one of kind 4, and it keeps at least what kind 4 keeps.
pub record BesideExact (Promise : Two → NarrowMemory → NarrowMemory → Result Narrowed Refusal → Type 0) : Type 0 where
  pub none_of_both : {s : Two} {m m' n n' : NarrowMemory} → Promise s m m' (Ok Narrowed.None) → narrow_exact.Promise s n n' (Ok Narrowed.Narrow) → ⊥
  pub keeps_more : {s : Two} {m m' n n' : NarrowMemory} → Promise s m m' (Ok Narrowed.Narrow) → narrow_exact.Promise s n n' (Ok Narrowed.Narrow)
      → Within (new_shape s.x n'.out_x) (new_shape s.x m'.out_x) × Within (new_shape s.y n'.out_y) (new_shape s.y m'.out_y)

pub record Request5 : Type 0 where
  -- "Kind 0 shall mean equal once trailing blanks are dropped from both": a text
  -- is its trimmed text with blanks behind, and that has no blank at its end
  pub kind_0 : (t u : List ℕ) → relation_of padded_kind t u ↔ (trimmed t ≡ trimmed u)
  pub dropped : (t : List ℕ) → BlanksBehind t (trimmed t)
  pub none_left : (t u : List ℕ) → trimmed t ≡ u ++ (blank ∷ []) → ⊥
  -- "a text of blanks equals the empty one"
  pub blanks_empty : (n : ℕ) → relation_of padded_kind (replicate n blank) []
  -- "Kind 4 is the old, exact equality."
  pub kind_4 : (t u : List ℕ) → relation_of exact_kind t u ↔ (t ≡ u)
  -- kind 0 is an equality, in which equal texts are equal
  pub equality : Equality padded_kind
  -- so are a text and it with blanks behind; two are exactly if one is the other with blanks behind
  pub blanks_behind : (t : List ℕ) (n : ℕ) → relation_of padded_kind (t ++ replicate n blank) t
  pub one_with_blanks : (t u : List ℕ) → relation_of padded_kind t u ↔ (BlanksBehind t u ⊎ BlanksBehind u t)
  -- blanks in front of a text, and within it, count
  pub leading_counts : relation_of padded_kind (blank ∷ 97 ∷ []) (97 ∷ []) → ⊥
  pub inner_counts : relation_of padded_kind (97 ∷ blank ∷ 98 ∷ []) (97 ∷ 98 ∷ []) → ⊥
  -- "The orders don't drop blanks.": a text comes before itself with
  -- blanks behind, and with blanks behind it is not at most itself
  pub orders_count : (t : List ℕ) (n : ℕ) → relation_of before_kind t (t ++ replicate (n + 1) blank)
  pub orders_count_back : (t : List ℕ) (n : ℕ) → relation_of at_most_kind (t ++ replicate (n + 1) blank) t → ⊥
  -- "a 'cannot' is no ground for a kind 0 none": of these two shapes the sweep says cannot and `narrow_padded` narrows,
  -- whatever memory is lent, as long as there is room
  pub cannot_no_ground : (out out' : List ℕ) (m m' : NarrowMemory) (r : Result Swept Refusal) (u : Result Narrowed Refusal)
      → sweep.Promise fields out out' r → narrow_padded.Promise fields m m' u
      → 4 ≤ length out → HasRoom fields m → (r ≡ Ok (Swept.Cannot 4)) × (u ≡ (Ok Narrowed.Narrow))
  -- "Demand 2 speaks of both, each with its own pairs" (`padded`, `exact`)
  pub beside_exact : BesideExact narrow_padded.Promise
  -- "Demand 3 holds with both kinds in a book": what such rules ask of texts
  pub asks_padded : (t : Rule) (text : ℕ → List ℕ) → t.kind ≡ padded_kind → Keeps t text ↔ Padded (text t.a) (text t.b)
  pub asks_exact : (t : Rule) (text : ℕ → List ℕ) → t.kind ≡ exact_kind → Keeps t text ↔ (text t.a ≡ text t.b)
  -- "Refusals: none new; kind 4 joins those that 7 lets pass": a rule of kind 4 is right exactly if it were with kind 0
  pub four_right : (counts : List ℕ) (a b c : ℕ) → RightRule counts (rule_with 4 a b c) ↔ RightRule counts (rule_with 0 a b c)
