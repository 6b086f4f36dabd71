-- Demand 3 speaks of rules applied singly, in any order: here each application is a call of
-- the library, on lent numbers. The state is the numbers of all texts' blocks, end to end. A
-- rule names two texts, or three if it is a join, and its kind the call that narrows them.
use Rattle.answers.specs.declared.Refusal.{Refusal}
use Rattle.std.specs.Prelude.{◌≡◌, List, [], ◌∷◌, ℕ, zero, suc, ◌*◌, ◌<◌, take, Result, Ok}
use Rattle.answers.specs.declared.Ended.{Ended}
use Rattle.answers.specs.declared.Narrowed.{Narrowed}
use Rattle.answers.specs.declared.Narrowed.TheVariants.{Narrow, None}
use Rattle.answers.specs.declared.TextRan.{TextRan}
use Rattle.shapes.specs.Lent.{shape_of}
use Rattle.shapes.specs.Shape.{Fits, block_size}
use Rattle.hulls.specs.Book.{Within}
use Rattle.texts.specs.Kind.{join_kind}
use Rattle.rules.specs.declared.Rule.{Rule}
use Rattle.rules.specs.Rule.{rule_at, rule_count, numbers_of_all}
use Rattle.books.specs.Counts.{count_of}
use Rattle.books.specs.Rules.{Names, Keeps}
use Rattle.books.specs.Code.{numbers_in}
use Rattle.book_steps.specs.Step.{Standing, laid_over}
use Rattle.groups.specs.Own.{OwnRules}
use Rattle.groups.specs.Ends.{text_ran}
use Rattle.book_calls.specs.Promise.{ran}
use Rattle.demands.specs.Call.{Two, NarrowMemory, narrow_padded, narrow_exact, narrow_any_case, narrow_at_most, narrow_before, Three, JoinMemory, narrow_join, CountsAndRules, counts_and_rules, BookMemory, run_book_call}

-- The promise of the call on two texts that a rule's kind names: 0 equal once trailing blanks are dropped, 1 a at most
-- b, 2 a before b, 4 equal to the letter, 5 equal but for letter case.
abbrev pub CallOf : ℕ → Two → NarrowMemory → NarrowMemory → Result Narrowed Refusal → Type 0
CallOf zero = narrow_padded.Promise
CallOf (suc zero) = narrow_at_most.Promise
CallOf (suc (suc zero)) = narrow_before.Promise
CallOf (suc (suc (suc zero))) = λ s m m' r. ⊥
CallOf (suc (suc (suc (suc zero)))) = narrow_exact.Promise
CallOf (suc (suc (suc (suc (suc zero))))) = narrow_any_case.Promise
CallOf (suc (suc (suc (suc (suc (suc k)))))) = λ s m m' r. ⊥

-- The numbers of a rule's texts, among xs.
abbrev pub two_of : List ℕ → Rule → List ℕ → Two
two_of counts t xs = record { x = numbers_in counts xs t.a; y = numbers_in counts xs t.b }

abbrev pub three_of : List ℕ → Rule → List ℕ → Three
three_of counts t xs = record { x = numbers_in counts xs t.a; y = numbers_in counts xs t.b; z = numbers_in counts xs t.c }

-- A call for the rule t, on the numbers of its texts among xs: the memory
-- lent, the same as handed back, and any outcome that the promise permits.
pub data RuleCall (counts : List ℕ) (t : Rule) (xs : List ℕ) (answer : Result Narrowed Refusal) : Type 0 where
  on_two : (m m' : NarrowMemory) → CallOf t.kind (two_of counts t xs) m m' answer → RuleCall counts t xs answer
  on_three : t.kind ≡ join_kind → (m m' : JoinMemory) → narrow_join.Promise (three_of counts t xs) m m' answer → RuleCall counts t xs answer

-- The new shape of text k stands at the start of its output.
abbrev pub new_of : List ℕ → ℕ → List ℕ → List ℕ
new_of counts k out = take (count_of counts k * block_size) out

-- The new shapes are laid back over the old ones.
unfoldable pub after : (counts : List ℕ) (t : Rule) (xs : List ℕ) → RuleCall counts t xs (Ok Narrow) → List ℕ
after counts t xs (on_two m m' p) = laid_over counts (t.a ∷ t.b ∷ []) (new_of counts t.a m'.out_x ∷ new_of counts t.b m'.out_y ∷ []) xs
after counts t xs (on_three e m m' p) =
    laid_over counts (t.a ∷ t.b ∷ t.c ∷ []) (new_of counts t.a m'.out_x ∷ new_of counts t.b m'.out_y ∷ new_of counts t.c m'.out_z ∷ []) xs

-- The call for the rule t answers with its shapes as they are: laid back, they change no number.
pub record Leaves (counts : List ℕ) (t : Rule) (xs : List ℕ) : Type 0 where
  pub call : RuleCall counts t xs (Ok Narrow)
  pub same : after counts t xs call ≡ xs

-- Every rule's call leaves the numbers xs.
pub record LeftAlone (g : CountsAndRules) (xs : List ℕ) : Type 0 where
  pub each : (j : ℕ) → j < rule_count g.rules → Leaves g.counts (rule_at g.rules j) xs

-- How a sequence of calls ends: one of them has answered none, or with numbers that every call leaves alone.
pub data Ending : Type 0 where
  none : Ending
  numbers : List ℕ → Ending

-- A sequence of calls from the numbers xs, for the rules with these
-- numbers, from 0, in this order: any rules, each as often as one likes.
pub data Calls (g : CountsAndRules) : List ℕ → List ℕ → Ending → Type 0 where
  says_none : {xs : List ℕ} (j : ℕ) → j < rule_count g.rules → RuleCall g.counts (rule_at g.rules j) xs (Ok None) → Calls g xs (j ∷ []) none
  rests : {xs : List ℕ} → LeftAlone g xs → Calls g xs [] (numbers xs)
  goes_on : {xs js : List ℕ} {e : Ending} (j : ℕ) → j < rule_count g.rules → (c : RuleCall g.counts (rule_at g.rules j) xs (Ok Narrow))
      → Calls g (after g.counts (rule_at g.rules j) xs c) js e → Calls g xs (j ∷ js) e

-- In book order, round after round, from rule k of n on.
pub data InOrder (n : ℕ) : ℕ → List ℕ → Type 0 where
  ends : {k : ℕ} → InOrder n k []
  next : {k : ℕ} {js : List ℕ} → k < n → InOrder n (suc k) js → InOrder n k (k ∷ js)
  round : {k : ℕ} {js : List ℕ} → k ≡ n → InOrder n 0 js → InOrder n k js

-- The numbers zs are the widest, within those entered, that are a sound
-- shape for each text and that no call would narrow or answer with none.
pub record WidestLeft (g : CountsAndRules) (blocks zs : List ℕ) : Type 0 where
  pub stands : Standing g.counts zs
  pub left : LeftAlone g zs
  pub within : Within (shape_of zs) (shape_of blocks)
  pub widest : (ys : List ℕ) → Standing g.counts ys → LeftAlone g ys → Within (shape_of ys) (shape_of blocks) → Within (shape_of ys) (shape_of zs)

-- One text for each number, each fitting its shape among xs, that together satisfy every rule of the book.
pub record Choice (g : CountsAndRules) (xs : List ℕ) (text : ℕ → List ℕ) : Type 0 where
  pub fits : (k : ℕ) → Names g.counts k → Fits (shape_of (numbers_in g.counts xs k)) (text k)
  pub keeps : (j : ℕ) → j < rule_count g.rules → Keeps (rule_at g.rules j) text

-- The book of a group: the same texts, with its own rules alone.
abbrev pub book_of_own : CountsAndRules → List Rule → CountsAndRules
book_of_own g own = counts_and_rules g.counts (numbers_of_all own)

-- A run of an accepted book, by our runner, with the records that it answers.
pub record RunOf (g : CountsAndRules) (m m' : BookMemory) (row : List TextRan) : Type 0 where
  pub promised : run_book_call.Promise g m m' (ran row)

-- Of such a run (document 02, order 11) text k, whose group has the rules `own` and ends in v.
pub record TextIn (g : CountsAndRules) (m m' : BookMemory) (k : ℕ) (own : List Rule) (v : Ended) : Type 0 where
  pub row : List TextRan
  pub run : RunOf g m m' row
  pub named : Names g.counts k
  pub its_rules : OwnRules g.rules (text_ran row k).group own
  pub ended : (text_ran row k).ended ≡ v
