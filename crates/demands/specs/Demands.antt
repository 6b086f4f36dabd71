-- The user's three demands, a field for each sentence, over the calls (Call.antt) and what they promise (`dashed`,
-- Promises.antt). That every call ends on every input and leaves no duty to its caller is what it means that the calls
-- are proved with no `requires`; it is no statement of this file.
use Rattle.std.specs.Prelude.{◌≡◌, List, [], ◌∷◌, ◌++◌, map, ◌↔◌, ℕ, ◌<◌, length, get_or, take, Result, Ok}
use Rattle.answers.specs.Told.{Told, told}
use Rattle.answers.specs.declared.Refusal.{Refusal}
use Rattle.answers.specs.declared.Ended.{Ended}
use Rattle.answers.specs.declared.Fit.{Fit}
use Rattle.answers.specs.declared.Narrowed.{Narrowed}
use Rattle.answers.specs.declared.Swept.{Swept}
use Rattle.answers.specs.declared.TextRan.{TextRan}
use Rattle.shapes.specs.Shape.{Block, Filling, text_of, Fits, no_block}
use Rattle.shapes.specs.Lent.{Numbers, shape_of}
use Rattle.texts.specs.Order.{AtMost, Before}
use Rattle.texts.specs.Padding.{Padded}
use Rattle.texts.specs.Case.{AnyCase}
use Rattle.hulls.specs.Hull.{Tight}
use Rattle.hulls.specs.Book.{Within, Stable}
use Rattle.sweep_steps.specs.Steps.{sweep_of}
use Rattle.sweep_passes.specs.Read.{swept_of, output_of}
use Rattle.rules.specs.declared.Rule.{Rule}
use Rattle.rules.specs.Rule.{rule_count}
use Rattle.books.specs.Rules.{Names, rule_of, AllIn}
use Rattle.books.specs.Code.{numbers_in}
use Rattle.book_steps.specs.Step.{Standing}
use Rattle.groups.specs.Own.{OwnRules}
use Rattle.groups.specs.Ends.{text_ran}
use Rattle.dashed.specs.Promises.{FitsShape, Earlier, LeastText, GreatestText}
use Rattle.demands.specs.Call.{Call, check_shape_call, fits_shape, least_text, greatest_text, find_mark, Two, sweep, NarrowMemory, new_shape, narrow_padded, narrow_exact, narrow_any_case, narrow_at_most, narrow_before, narrow_join, common_text_call, sweep_tray, judge_pair, CountsAndRules, BookMemory, run_book_call, AcceptedWith, run_file_call, run_host_call}
use Rattle.demands.specs.Calls.{LeftAlone, none, numbers, Ending, Calls, InOrder, WidestLeft, Choice, book_of_own, RunOf, TextIn}

-- ---- demand 1

-- Of one call: g is given, the memory m is lent, and m' is the memory as handed back.
pub record Demand1Of (c : Call) : Type 0 where
  -- "A malformed shape, book or file and a short buffer are refused by number, text and place": what is acceptable is
  -- never refused, what is not always is, and by the one number, text and place that is due
  pub acceptable : {g : c.Given} {m m' : c.Memory} → (c.checked g m).good → (q : Refusal) → c.Promise g m m' (c.refused q) → ⊥
  pub malformed : {g : c.Given} {m m' : c.Memory} → ((c.checked g m).good → ⊥) → (r : c.Answer) → c.Promise g m m' r
      → (q : Refusal) × (r ≡ c.refused q) × (c.checked g m).due (told q)
  pub one_refusal : (g : c.Given) (m : c.Memory) (t u : Told) → (c.checked g m).due t → (c.checked g m).due u → t ≡ u
  -- "a refusal leaves all lent memory untouched"
  pub untouched : {g : c.Given} {m m' : c.Memory} (q : Refusal) → c.Promise g m m' (c.refused q) → m' ≡ m
  -- for one input there is one outcome: the answer with its count or refusal, and every lent cell
  pub one_outcome : {g : c.Given} {m m' m'' : c.Memory} (r s : c.Answer) → c.Promise g m m' r → c.Promise g m m'' s → (r ≡ s) × (m' ≡ m'')

pub record Demand1 : Type 1 where
  pub check_shape : Demand1Of check_shape_call
  pub fits : Demand1Of fits_shape
  pub least : Demand1Of least_text
  pub greatest : Demand1Of greatest_text
  pub find : Demand1Of find_mark
  pub sweep : Demand1Of sweep
  pub tray : Demand1Of sweep_tray
  -- (a bad pair in its own record)
  pub tray_pair : Demand1Of judge_pair
  pub padded : Demand1Of narrow_padded
  pub exact : Demand1Of narrow_exact
  pub any_case : Demand1Of narrow_any_case
  pub at_most : Demand1Of narrow_at_most
  pub before : Demand1Of narrow_before
  pub join : Demand1Of narrow_join
  pub common_text : Demand1Of common_text_call
  pub run_book : Demand1Of run_book_call
  pub run_file : Demand1Of run_file_call
  pub run_host : Demand1Of run_host_call
  -- the earlier of two texts is never refused; for one input there is one outcome
  pub earlier : {Lent : Type 0} (a b : List ℕ) {x y r s : Lent} → Earlier a b x y r → Earlier a b x y s → r ≡ s

-- ---- demand 2

-- One to one, the members of two lists are in P.
pub data Each {A B : Type 0} (P : A → B → Type 0) : List A → List B → Type 0 where
  end : Each P [] []
  next : {a : A} {b : B} {l : List A} {k : List B} → P a b → Each P l k → Each P (a ∷ l) (b ∷ k)

-- A text for each of the shapes S, that together satisfy R.
pub record TextsFor (R : List (List ℕ) → Type 0) (S : List (List Block)) : Type 0 where
  pub texts : List (List ℕ)
  pub fit : Each Fits S texts
  pub satisfy : R texts

-- A filling for each of them, whose texts satisfy R.
pub record Fillings (R : List (List ℕ) → Type 0) (S : List (List Block)) : Type 0 where
  pub fillings : List (List (List ℕ))
  pub fill : Each Filling S fillings
  pub satisfy : R (map text_of fillings)

-- Each block of the new shapes has exactly the characters, and the least and
-- greatest count, that some such fillings give it: block j of shape i, both from 0.
pub record KeepsExactly (R : List (List ℕ) → Type 0) (S S' : List (List Block)) : Type 0 where
  pub blocks : Each (λ (X X' : List Block). length X' ≡ length X) S S'
  pub keeps : (i j : ℕ) → j < length (get_or S i [])
      → Tight (λ r. (f : Fillings R S) × (get_or (get_or f.fillings i []) j [] ≡ r)) (get_or (get_or S' i []) j no_block)

-- Of a call that narrows shapes: those entered, and those that are left in the memory handed back.
pub record Exact (R : List (List ℕ) → Type 0) {Given Memory : Type 0} (Promise : Given → Memory → Memory → Result Narrowed Refusal → Type 0)
    (entered : Given → List (List Block)) (left : Given → Memory → List (List Block)) : Type 0 where
  -- "'none' comes exactly if no pair of texts satisfies the rule"
  pub none_sound : {g : Given} {m m' : Memory} → Promise g m m' (Ok Narrowed.None) → TextsFor R (entered g) → ⊥
  pub none_complete : {g : Given} {m m' : Memory} → Promise g m m' (Ok Narrowed.Narrow) → TextsFor R (entered g)
  -- "otherwise each block keeps exactly the characters, and the least
  -- and greatest count, that some satisfying pair of fillings gives it"
  pub keeps : {g : Given} {m m' : Memory} → Promise g m m' (Ok Narrowed.Narrow) → KeepsExactly R (entered g) (left g m')

-- Two shapes, and a relation of two texts.
abbrev pub ExactTwo : (List ℕ → List ℕ → Type 0) → (Two → NarrowMemory → NarrowMemory → Result Narrowed Refusal → Type 0) → Type 0
ExactTwo R Promise = Exact (λ t. R (get_or t 0 []) (get_or t 1 [])) Promise
    (λ s. shape_of s.x ∷ shape_of s.y ∷ [])
    (λ s m'. new_shape s.x m'.out_x ∷ new_shape s.y m'.out_y ∷ [])

-- A join, with triples for pairs (document 02, order 3): the first text is the second followed by the third.
abbrev pub ExactJoin : Type 0
ExactJoin = Exact (λ t. get_or t 0 [] ≡ get_or t 1 [] ++ get_or t 2 []) narrow_join.Promise
    (λ s. shape_of s.x ∷ shape_of s.y ∷ shape_of s.z ∷ [])
    (λ s m'. new_shape s.x m'.out_x ∷ new_shape s.y m'.out_y ∷ new_shape s.z m'.out_z ∷ [])

pub record Demand2 : Type 0 where
  -- "Fitting, least and greatest text mean what the dashed-string papers define."
  pub fits_yes : (xs t : List ℕ) → FitsShape xs t (Ok Fit.Fits) → Fits (shape_of xs) t
  pub fits_no : (xs t : List ℕ) → FitsShape xs t (Ok Fit.Unfit) → Fits (shape_of xs) t → ⊥
  pub least : {xs out out' : List ℕ} (n : ℕ) → LeastText xs out out' (Ok n)
      → Fits (shape_of xs) (take n out') × ((u : List ℕ) → Fits (shape_of xs) u → AtMost (take n out') u)
  pub greatest : {xs out out' : List ℕ} (n : ℕ) → GreatestText xs out out' (Ok n)
      → Fits (shape_of xs) (take n out') × ((u : List ℕ) → Fits (shape_of xs) u → AtMost u (take n out'))
  -- "For equality and both orders ..": equality once trailing blanks are dropped, equality to the letter (document 02,
  -- order 5), and equality but for letter case (order 9)
  pub padded : ExactTwo Padded narrow_padded.Promise
  pub exact : ExactTwo (λ t u. t ≡ u) narrow_exact.Promise
  pub any_case : ExactTwo AnyCase narrow_any_case.Promise
  pub at_most : ExactTwo AtMost narrow_at_most.Promise
  pub before : ExactTwo Before narrow_before.Promise
  -- and for joins
  pub join : ExactJoin
  -- "The quick sweep follows its corrected rules": the answer with its
  -- looks, and every output cell, are those of document 01's steps
  pub sweep_places : {s : Two} {out out' : List ℕ} (k : ℕ) → sweep.Promise s out out' (Ok (Swept.Places k))
      → let o = sweep_of (shape_of s.x) (shape_of s.y) in (Swept.Places k ≡ swept_of o) × (out' ≡ output_of o out)
  pub sweep_cannot : {s : Two} {out out' : List ℕ} (k : ℕ) → sweep.Promise s out out' (Ok (Swept.Cannot k))
      → let o = sweep_of (shape_of s.x) (shape_of s.y) in (Swept.Cannot k ≡ swept_of o) × (out' ≡ output_of o out)
  -- "and says 'cannot' only where no common text exists"
  pub cannot_sound : {s : Two} {out out' : List ℕ} (k : ℕ) → sweep.Promise s out out' (Ok (Swept.Cannot k))
      → (t : List ℕ) → Fits (shape_of s.x) t → Fits (shape_of s.y) t → ⊥

-- ---- demand 3

pub record Demand3 : Type 0 where
  -- "In an accepted book, rules applied singly in any order until one
  -- says none or none would change anything all agree with each other"
  pub agree : {g : CountsAndRules} {blocks js ks : List ℕ} {w : ℕ} {e u : Ending} → AcceptedWith g blocks w → Numbers blocks
      → Calls g blocks js e → Calls g blocks ks u → e ≡ u
  -- a group's own rules are those of an accepted book (document 02, order 11: "Demand 3 holds group by group"), so that
  -- all that is said here of a book is said of each of its groups
  pub own_book : {g : CountsAndRules} {blocks : List ℕ} {w h : ℕ} {own : List Rule} → AcceptedWith g blocks w → OwnRules g.rules h own
      → AcceptedWith (book_of_own g own) blocks w
  -- "and with our runner: all none, or all the same shapes", of each group, at its own texts
  pub runner_stable : {g : CountsAndRules} {m m' : BookMemory} {k : ℕ} {own : List Rule} {js : List ℕ} {e : Ending} (n : ℕ) → Numbers m.blocks
      → TextIn g m m' k own (Ended.Stable n) → Calls (book_of_own g own) m.blocks js e
      → (zs : List ℕ) × (e ≡ numbers zs) × (numbers_in g.counts m'.blocks k ≡ numbers_in g.counts zs k)
  pub runner_none : {g : CountsAndRules} {m m' : BookMemory} {k : ℕ} {own : List Rule} {js : List ℕ} {e : Ending} (n : ℕ) → Numbers m.blocks
      → TextIn g m m' k own (Ended.None n) → Calls (book_of_own g own) m.blocks js e → e ≡ none
  -- our runner is itself such a sequence, of the applications of the group's own rules, in book order, those that
  -- change nothing included; and the count is their number
  pub runner_calls_stable : {g : CountsAndRules} {m m' : BookMemory} {k : ℕ} {own : List Rule} (n : ℕ) → Numbers m.blocks → TextIn g m m' k own (Ended.Stable n)
      → (js zs : List ℕ) × Calls (book_of_own g own) m.blocks js (numbers zs) × InOrder (length own) 0 js × (length js ≡ n)
  pub runner_calls_none : {g : CountsAndRules} {m m' : BookMemory} {k : ℕ} {own : List Rule} (n : ℕ) → Numbers m.blocks → TextIn g m m' k own (Ended.None n)
      → (js : List ℕ) × Calls (book_of_own g own) m.blocks js none × InOrder (length own) 0 js × (length js ≡ n)
  -- in whatever order the rules were entered
  pub permuted : {g h : CountsAndRules} {blocks js ks : List ℕ} {w v : ℕ} {e u : Ending} → g.counts ≡ h.counts
      → AllIn g.rules h.rules → AllIn h.rules g.rules → AcceptedWith g blocks w → AcceptedWith h blocks v → Numbers blocks
      → Calls g blocks js e → Calls h blocks ks u → e ≡ u
  -- "the widest stable ones within those entered"; none means that there are no such shapes
  pub widest : {g : CountsAndRules} {blocks js zs : List ℕ} {w : ℕ} → AcceptedWith g blocks w → Numbers blocks
      → Calls g blocks js (numbers zs) → WidestLeft g blocks zs
  pub none_wide : {g : CountsAndRules} {blocks js : List ℕ} {w : ℕ} → AcceptedWith g blocks w → Calls g blocks js none
      → (ys : List ℕ) → Standing g.counts ys → LeftAlone g ys → Within (shape_of ys) (shape_of blocks) → ⊥
  -- stable, as said of all blocks at once (`Stable`, hulls), is exactly that every call leaves the numbers alone
  pub stable_left : {g : CountsAndRules} {blocks : List ℕ} {w : ℕ} → AcceptedWith g blocks w → Numbers blocks
      → Stable (rule_count g.rules) (rule_of g.counts g.rules) (shape_of blocks) ↔ LeftAlone g blocks
  -- and wherever a sequence ends is an accepted book again, of the same
  -- rules: the shapes stay sound, and no join outgrows its 250 characters
  pub accepted_on : {g : CountsAndRules} {blocks js zs : List ℕ} {w : ℕ} → AcceptedWith g blocks w → Numbers blocks
      → Calls g blocks js (numbers zs) → AcceptedWith g zs w
  -- "No choice of texts that satisfies the whole book is lost."
  pub none_lost : {g : CountsAndRules} {blocks js : List ℕ} {w : ℕ} {e : Ending} {text : ℕ → List ℕ} → AcceptedWith g blocks w → Numbers blocks
      → Calls g blocks js e → Choice g blocks text → (zs : List ℕ) × (e ≡ numbers zs) × Choice g zs text
  -- nor by our runner: where there is such a choice every group is stable, and it fits what is left
  pub runner_keeps : {g : CountsAndRules} {m m' : BookMemory} {row : List TextRan} {text : ℕ → List ℕ} → Numbers m.blocks → RunOf g m m' row
      → Choice g m.blocks text → ((k : ℕ) → Names g.counts k → (n : ℕ) × ((text_ran row k).ended ≡ Ended.Stable n)) × Choice g m'.blocks text
