-- Document 02, order 3, a field for each sentence: joins. To a second call other memory is lent, n.
use Rattle.std.specs.Prelude.{◌≡◌, List, [], ◌++◌, ◌∷◌, map, ◌↔◌, ℕ, ◌+◌, ◌*◌, ◌%◌, ◌≤◌, ◌<◌, length, Result, Ok}
use Rattle.answers.specs.Told.{tell, told}
use Rattle.answers.specs.declared.Refusal.{Refusal}
use Rattle.answers.specs.declared.Narrowed.{Narrowed}
use Rattle.shapes.specs.Shape.{Fits, total}
use Rattle.shapes.specs.Lent.{shape_of}
use Rattle.texts.specs.Kind.{relation_of, join_kind}
use Rattle.rules.specs.declared.Rule.{Rule}
use Rattle.rules.specs.Rule.{rule_at, rule_count}
use Rattle.books.specs.Counts.{RightCounts, shape_in}
use Rattle.books.specs.Rules.{Names, RightRule, Keeps}
use Rattle.books.specs.Refused.{SoundTexts, SoundRule, BookRefused}
use Rattle.file_numerals.specs.Digits.{decimal}
use Rattle.file_lines.specs.Grammar.{joined}
use Rattle.file_lines.specs.Book.{Book}
use Rattle.book_calls.specs.Promise.{refused_run}
use Rattle.demands.specs.Call.{CallTells, Two, NarrowMemory, new_numbers, new_shape, narrow_exact, Three, JoinMemory, narrow_join, CountsAndRules, BookMemory, run_book_call, AcceptedWith, given_of, lent_blocks, run_file_call}

-- A rule's line in a file: its four numbers, with single blanks.
abbrev pub numbers_of_four : Rule → List ℕ
numbers_of_four t = decimal t.kind ++ 32 ∷ (decimal t.a ++ 32 ∷ (decimal t.b ++ 32 ∷ decimal t.c))

-- The rules before rule i, from 0, are sound, and so are the counts and all texts: rule i is tried.
pub record RuleTried (counts blocks rules : List ℕ) (i : ℕ) : Type 0 where
  pub counted : RightCounts counts blocks rules
  pub texts : SoundTexts counts (shape_of blocks)
  pub within : i < rule_count rules
  pub before : (j : ℕ) → j < i → SoundRule counts (shape_of blocks) (rule_at rules j)

-- The first shape, and the line that the second's blocks make with the third's behind them.
abbrev pub beside : Three → Two
beside s = record { x = s.x; y = s.y ++ s.z }

-- The first shape as narrowing left it, the others as entered.
abbrev pub first_left : Three → JoinMemory → Three
first_left s m' = record { x = new_numbers s.x m'.out_x; y = s.y; z = s.z }

pub record Request3 : Type 0 where
  -- "Add a rule saying that text a is text b followed by text c":
  -- what a join asks of texts; the other kinds ask what they asked
  pub join_asks : (t : Rule) (text : ℕ → List ℕ) → t.kind ≡ join_kind → Keeps t text ↔ (text t.a ≡ text t.b ++ text t.c)
  pub others_ask : (t : Rule) (text : ℕ → List ℕ) → (t.kind ≡ join_kind → ⊥) → Keeps t text ↔ relation_of t.kind (text t.a) (text t.b)
  -- "Rules become four numbers": those of an accepted book are whole fours
  pub four_numbers : {g : CountsAndRules} {blocks : List ℕ} {w : ℕ} → AcceptedWith g blocks w → length g.rules ≡ rule_count g.rules * 4
  -- "in the file too": a file that is not refused ends with a
  -- line of four numbers for each rule of the book that is run
  pub in_the_file : {file report report' : List ℕ} (n : ℕ) → run_file_call.Promise file report report' (Ok n)
      → (b : Book) × AcceptedWith (given_of b) (lent_blocks b) 63001 × ((front : List (List ℕ)) × (file ≡ joined (front ++ map numbers_of_four b.rules)))
  -- "6 reads fours of numbers where it read triples": rules that are no whole
  -- fours are refused by 6, and whole fours, up to 16, are no ground for it
  pub six_fours : (g : CountsAndRules) (m : BookMemory) → (length g.rules % 4 ≡ 0 → ⊥) → CallTells run_book_call g m (tell 6 0 0)
  pub fours_pass : {g : CountsAndRules} {m m' : BookMemory} (q : Refusal) → run_book_call.Promise g m m' (refused_run q) → (told q).number ≡ 6
      → RightCounts g.counts m.blocks [] → length g.rules % 4 ≡ 0 → rule_count g.rules ≤ 16 → ⊥
  -- "the fourth is 0 except in kind 3, where it is c", and "a, b, c are .. three different texts"
  pub fourth_zero : {g : CountsAndRules} {blocks : List ℕ} {w : ℕ} → AcceptedWith g blocks w → (j : ℕ) → j < rule_count g.rules
      → ((rule_at g.rules j).kind ≡ join_kind → ⊥) → (rule_at g.rules j).c ≡ 0
  pub three_texts : {g : CountsAndRules} {blocks : List ℕ} {w : ℕ} → AcceptedWith g blocks w → (j : ℕ) → j < rule_count g.rules
      → (rule_at g.rules j).kind ≡ join_kind → let t = rule_at g.rules j in
      (Names g.counts t.a × Names g.counts t.b × Names g.counts t.c) × ((t.a ≡ t.b → ⊥) × (t.a ≡ t.c → ⊥) × (t.b ≡ t.c → ⊥))
  -- "7 also if ..; 12 if the uppers of b and c add to over 250, at the rule's number, tried right after 7 for that
  -- rule": once the rules before it are sound, a rule is refused by 7, then by 12, whatever stands after it
  pub seven : {counts blocks rules : List ℕ} {w : ℕ} (i : ℕ) → RuleTried counts blocks rules i → (RightRule counts (rule_at rules i) → ⊥)
      → BookRefused counts blocks rules w (tell 7 0 (i + 1))
  pub twelve : {counts blocks rules : List ℕ} {w : ℕ} (i : ℕ) → RuleTried counts blocks rules i
      → let t = rule_at rules i in
      RightRule counts t → t.kind ≡ join_kind → 250 < total (shape_in counts (shape_of blocks) t.b) + total (shape_in counts (shape_of blocks) t.c)
      → BookRefused counts blocks rules w (tell 12 0 (i + 1))
  -- what some triple of texts satisfies stays: no such triple is lost
  pub none_lost : {s : Three} {m m' : JoinMemory} → narrow_join.Promise s m m' (Ok Narrowed.Narrow)
      → (t u v : List ℕ) → Fits (shape_of s.x) t → Fits (shape_of s.y) u → Fits (shape_of s.z) v → t ≡ u ++ v
      → Fits (new_shape s.x m'.out_x) t × Fits (new_shape s.y m'.out_y) u × Fits (new_shape s.z m'.out_z) v
  -- "All three are narrowed over triples": from the entered shapes; that b and c are as they would be if they were
  -- narrowed against what a's narrowing left is a law
  pub from_first : {s : Three} {m m' n n' : JoinMemory}
      → narrow_join.Promise s m m' (Ok Narrowed.Narrow) → narrow_join.Promise (first_left s m') n n' (Ok Narrowed.Narrow)
      → (new_numbers s.y n'.out_y ≡ new_numbers s.y m'.out_y) × (new_numbers s.z n'.out_z ≡ new_numbers s.z m'.out_z)
  -- a join is exact equality with the line that b's blocks make with c's
  -- behind them, where that is a shape: the same none, and the same numbers
  pub as_equality_none : (s : Three) (m m' : JoinMemory) (n n' : NarrowMemory) (r u : Result Narrowed Refusal)
      → narrow_join.Promise s m m' r → narrow_exact.Promise (beside s) n n' u
      → (narrow_join.checked s m).good → (narrow_exact.checked (beside s) n).good → (r ≡ (Ok Narrowed.None)) ↔ (u ≡ (Ok Narrowed.None))
  pub as_equality : {s : Three} {m m' : JoinMemory} {n n' : NarrowMemory}
      → narrow_join.Promise s m m' (Ok Narrowed.Narrow) → narrow_exact.Promise (beside s) n n' (Ok Narrowed.Narrow)
      → (new_numbers s.x m'.out_x ≡ new_numbers s.x n'.out_x)
      × (new_numbers s.y m'.out_y ++ new_numbers s.z m'.out_z ≡ new_numbers (s.y ++ s.z) n'.out_y)
