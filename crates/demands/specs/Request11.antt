-- Document 02, order 11, a field for each sentence: two laboratories, one book. What a run leaves of text k and answers
-- of it is `numbers_in g.counts m'.blocks k` and `text_ran row k`; `gs` are the groups of a report, by number.
use Rattle.std.specs.Prelude.{◌≡◌, List, [], ◌∷◌, ◌++◌, map, ◌⊎◌, ◌↔◌, ℕ, ◌≤◌, ◌<◌, length, get_or, take, Ok}
use Rattle.answers.specs.Told.{Told, told}
use Rattle.answers.specs.declared.Ended.{Ended}
use Rattle.answers.specs.declared.Ran.{Ran}
use Rattle.answers.specs.declared.Refusal.{Refusal}
use Rattle.answers.specs.declared.TextRan.{TextRan}
use Rattle.rules.specs.declared.Rule.{Rule}
use Rattle.rules.specs.Rule.{rule_at, rule_count, numbers_of_all}
use Rattle.shapes.specs.Shape.{Block}
use Rattle.shapes.specs.Lent.{Numbers, shape_of, words_of}
use Rattle.texts.specs.Kind.{join_kind}
use Rattle.hulls.specs.Hull.{none as in-none, shapes}
use Rattle.books.specs.Counts.{shape_in}
use Rattle.books.specs.Rules.{Names}
use Rattle.books.specs.Code.{numbers_in}
use Rattle.books.specs.Refused.{SoundRule, BookRefused}
use Rattle.book_runs.specs.Rounds.{BookRun}
use Rattle.groups.specs.Linked.{NamedBy, Linked, GroupOf}
use Rattle.groups.specs.Own.{OwnRules}
use Rattle.groups.specs.Same.{SameGroup}
use Rattle.groups.specs.Ends.{no_text_ran, text_ran, GroupsIn}
use Rattle.book_calls.specs.Promise.{refused_run}
use Rattle.file_numerals.specs.Digits.{decimal}
use Rattle.file_lines.specs.Grammar.{joined, writing}
use Rattle.file_lines.specs.Book.{Sheet, Book, sheet_of, sheet_parts}
use Rattle.files.specs.Departs.{FileAccepted}
use Rattle.file_runs.specs.Ends.{FileEnds}
use Rattle.file_reports.specs.Report.{group_word, stable_word, none_word, group_line, refused_line, report_of}
use Rattle.file_reports.specs.Report.Verdict.{ran, refused}
use Rattle.demands.specs.Call.{CountsAndRules, BookMemory, run_book_call, AcceptedWith, given_of, lent_blocks, run_file_call}
use Rattle.demands.specs.Calls.{none, numbers, Ending, Calls, book_of_own, RunOf}

-- Text k stands in no rule.
pub record InNoRule (rules : List ℕ) (k : ℕ) : Type 0 where
  pub lone : (j : ℕ) → j < rule_count rules → NamedBy (rule_at rules j) k → ⊥

-- The group of some text is none.
pub record SomeNone (counts : List ℕ) (row : List TextRan) : Type 0 where
  pub text : ℕ
  pub named : Names counts text
  pub count : ℕ
  pub ended : (text_ran row text).ended ≡ Ended.None count

pub record Request11 : Type 1 where
  -- "Texts linked by rules, directly": a and b of a rule, and in a join c; "or through others"
  pub linked_two : (rules : List ℕ) (j : ℕ) → j < rule_count rules → Linked rules (rule_at rules j).a (rule_at rules j).b
  pub linked_third : (rules : List ℕ) (j : ℕ) → j < rule_count rules → (rule_at rules j).kind ≡ join_kind → Linked rules (rule_at rules j).a (rule_at rules j).c
  pub linked_itself : (rules : List ℕ) (k : ℕ) → Linked rules k k
  pub linked_back : {rules : List ℕ} {k l : ℕ} → Linked rules k l → Linked rules l k
  pub linked_through : {rules : List ℕ} {k l i : ℕ} → Linked rules k l → Linked rules l i → Linked rules k i
  -- and in no other way: what holds so far and of the texts of each rule holds of all that are linked
  pub linked_only : {rules : List ℕ} {k l : ℕ} (R : ℕ → ℕ → Type 0) → ((i : ℕ) → R i i) → ((i j n : ℕ) → R i j → R j n → R i n)
      → ((j a b : ℕ) → j < rule_count rules → NamedBy (rule_at rules j) a → NamedBy (rule_at rules j) b → R a b) → Linked rules k l → R k l
  pub fourth_unlinked : (t : Rule) (k : ℕ) → (t.kind ≡ join_kind → ⊥) → NamedBy t k → (t.a ≡ k) ⊎ (t.b ≡ k)
  -- "form a group, named by its least text number": one name for those that are linked, and for no others
  pub one_name : {g : CountsAndRules} {m m' : BookMemory} {row : List TextRan} → RunOf g m m' row → (k l : ℕ) → Names g.counts k → Names g.counts l
      → Linked g.rules k l ↔ ((text_ran row k).group ≡ (text_ran row l).group)
  pub least_number : {g : CountsAndRules} {m m' : BookMemory} {row : List TextRan} → RunOf g m m' row → (k : ℕ) → Names g.counts k
      → GroupOf g.rules k (text_ran row k).group × Names g.counts (text_ran row k).group
  -- "Run each group by itself with its rules in book order": those of which a text is the group's, and then all are
  pub own_rules : {rules : List ℕ} {h k : ℕ} (j : ℕ) → j < rule_count rules → NamedBy (rule_at rules j) k
      → GroupOf rules k h ↔ GroupOf rules (rule_at rules j).a h
  -- its verdict and count are those of the run of these rules alone; "shapes": a stable group's are left in the blocks,
  -- whatever the others are
  pub stable_run : {g : CountsAndRules} {m m' : BookMemory} {row : List TextRan} {own : List Rule} {H : List Block} {n : ℕ} → RunOf g m m' row
      → (k : ℕ) → Names g.counts k → OwnRules g.rules (text_ran row k).group own → BookRun g.counts m.blocks (numbers_of_all own) (shapes H) n
      → ((text_ran row k).ended ≡ Ended.Stable n) × (numbers_in g.counts m'.blocks k ≡ words_of (shape_in g.counts H k))
  -- "Texts of a group that is none stay as entered"
  pub none_run : {g : CountsAndRules} {m m' : BookMemory} {row : List TextRan} {own : List Rule} {n : ℕ} → RunOf g m m' row
      → (k : ℕ) → Names g.counts k → OwnRules g.rules (text_ran row k).group own → BookRun g.counts m.blocks (numbers_of_all own) in-none n
      → ((text_ran row k).ended ≡ Ended.None n) × (numbers_in g.counts m'.blocks k ≡ numbers_in g.counts m.blocks k)
  -- and one of the two it is
  pub some_run : {g : CountsAndRules} {m m' : BookMemory} {row : List TextRan} → RunOf g m m' row → (k : ℕ) → Names g.counts k
      → (own : List Rule) × OwnRules g.rules (text_ran row k).group own
      × (((H : List Block) × (n : ℕ) × BookRun g.counts m.blocks (numbers_of_all own) (shapes H) n) ⊎ ((n : ℕ) × BookRun g.counts m.blocks (numbers_of_all own) in-none n))
  -- a text in no rule is a group of its own, stable with count 0, and as entered
  pub lone_text : {g : CountsAndRules} {m m' : BookMemory} {row : List TextRan} → Numbers m.blocks → RunOf g m m' row → (k : ℕ) → Names g.counts k → InNoRule g.rules k
      → (text_ran row k ≡ record { group = k; ended = Ended.Stable 0 }) × (numbers_in g.counts m'.blocks k ≡ numbers_in g.counts m.blocks k)
  -- "A group's verdict, shapes and count depend on its own texts and rules only: two accepted books that hold the same
  -- group, its rules in the same order, agree on all three", whatever numbers its texts have in the other; and a book
  -- holds its own groups
  pub agree : {E : ℕ → ℕ → Type 0} {g o : CountsAndRules} {m m' n n' : BookMemory} {row others : List TextRan} {h i : ℕ}
      → SameGroup E g.counts m.blocks g.rules h o.counts n.blocks o.rules i → RunOf g m m' row → RunOf o n n' others → (k l : ℕ) → E k l
      → ((text_ran row k).ended ≡ (text_ran others l).ended) × (shape_in g.counts (shape_of m'.blocks) k ≡ shape_in o.counts (shape_of n'.blocks) l)
  pub holds_itself : {g : CountsAndRules} {blocks : List ℕ} {w : ℕ} (h : ℕ) → AcceptedWith g blocks w
      → (E : ℕ → ℕ → Type 0) × SameGroup E g.counts blocks g.rules h g.counts blocks g.rules h
  -- the texts outside a group stay, whatever calls its rules make
  pub outside_stays : {g : CountsAndRules} {blocks js zs : List ℕ} {w h k : ℕ} {own : List Rule} → AcceptedWith g blocks w → Numbers blocks
      → OwnRules g.rules h own → Calls (book_of_own g own) blocks js (numbers zs) → Names g.counts k → (GroupOf g.rules k h → ⊥)
      → numbers_in g.counts zs k ≡ numbers_in g.counts blocks k
  -- all rules together end in none exactly if some group does, and otherwise in the same shapes
  pub together_none : {g : CountsAndRules} {m m' : BookMemory} {row : List TextRan} {ks : List ℕ} {e : Ending} → RunOf g m m' row → Numbers m.blocks
      → Calls g m.blocks ks e → (e ≡ none) ↔ SomeNone g.counts row
  pub together_stable : {g : CountsAndRules} {m m' : BookMemory} {row : List TextRan} {ks zs : List ℕ} → RunOf g m m' row → Numbers m.blocks
      → Calls g m.blocks ks (numbers zs) → zs ≡ m'.blocks
  -- what stands in the blocks after a run is an accepted book again
  pub accepted_again : {g : CountsAndRules} {m m' : BookMemory} {row : List TextRan} → RunOf g m m' row → AcceptedWith g m'.blocks (length m.work)
  -- "Grammar, counts, the 16-rule limit and any refusal are still common to all": one bad rule refuses the whole book
  pub one_bad_rule : (g : CountsAndRules) (m m' : BookMemory) (r : Ran) (j : ℕ) → j < rule_count g.rules
      → (SoundRule g.counts (shape_of m.blocks) (rule_at g.rules j) → ⊥) → run_book_call.Promise g m m' r → (q : Refusal) × (r ≡ refused_run q) × (m' ≡ m)
  -- the answer has eight records; past the last text, and where the book is refused, they are those of no text
  pub eight_records : {g : CountsAndRules} {m m' : BookMemory} {row : List TextRan} → RunOf g m m' row → length row ≡ 8
  pub past_the_last : {g : CountsAndRules} {m m' : BookMemory} {row : List TextRan} → RunOf g m m' row → (k : ℕ) → length g.counts < k → k ≤ 8 → text_ran row k ≡ no_text_ran
  pub where_refused : (q : Refusal) (k : ℕ) → text_ran (refused_run q).texts k ≡ no_text_ran
  -- "`GROUP g STABLE count` or `GROUP g NONE count`"
  pub stable_line : (h n : ℕ) → group_line (record { group = h; ended = Ended.Stable n }) ≡ (group_word ++ decimal h) ++ (stable_word ++ decimal n)
  pub none_line : (h n : ℕ) → group_line (record { group = h; ended = Ended.None n }) ≡ (group_word ++ decimal h) ++ (none_word ++ decimal n)
  -- "group after group by number .., then TEXTS and BLOCKS for the whole book", also if every group is none
  pub report_is : (gs : List TextRan) (s : Sheet) → report_of (ran gs s) ≡ joined (map group_line gs) ++ writing (sheet_parts s)
  pub whole_book : {file : List ℕ} {b : Book} {gs : List TextRan} {s : Sheet} → FileAccepted file b → FileEnds file (ran gs s)
      → (s.counts ≡ b.sheet.counts) × (length s.blocks ≡ length b.sheet.blocks)
  pub by_number : {file : List ℕ} {gs : List TextRan} {s : Sheet} → FileEnds file (ran gs s) → (i j : ℕ) → i < j → j < length gs
      → (get_or gs i no_text_ran).group < (get_or gs j no_text_ran).group
  -- each group of the book has its line, and no other line is there
  pub each_group : {file : List ℕ} {b : Book} {gs : List TextRan} {s : Sheet} → FileAccepted file b → FileEnds file (ran gs s) → (k : ℕ) → Names b.sheet.counts k
      → (i : ℕ) × (i < length gs) × GroupOf (numbers_of_all b.rules) k (get_or gs i no_text_ran).group
  pub only_groups : {file : List ℕ} {b : Book} {gs : List TextRan} {s : Sheet} → FileAccepted file b → FileEnds file (ran gs s) → (i : ℕ) → i < length gs
      → let h = (get_or gs i no_text_ran).group in Names b.sheet.counts h × GroupOf (numbers_of_all b.rules) h h
  -- those of a group whose line says NONE stand there as the file has them
  pub none_reported : {file : List ℕ} {b : Book} {gs : List TextRan} {s : Sheet} → FileAccepted file b → FileEnds file (ran gs s) → (i k n : ℕ) → i < length gs
      → (get_or gs i no_text_ran).ended ≡ Ended.None n → Names b.sheet.counts k → GroupOf (numbers_of_all b.rules) k (get_or gs i no_text_ran).group
      → shape_in s.counts s.blocks k ≡ shape_in b.sheet.counts b.sheet.blocks k
  -- the report of a file is that of what `run_book` answers and leaves of its book
  pub as_run_book : {file report report' : List ℕ} {b : Book} {m m' : BookMemory} {row : List TextRan} (n : ℕ) → FileAccepted file b
      → run_file_call.Promise file report report' (Ok n) → m.blocks ≡ lent_blocks b → RunOf (given_of b) m m' row
      → (gs : List TextRan) × GroupsIn 1 (take (length b.sheet.counts) row) gs × (take n report' ≡ report_of (ran gs (sheet_of b.sheet.width b.sheet.counts m'.blocks)))
  -- "This replaces the first line and the bare NONE"; REFUSED stays alone
  pub refused_alone : (t : Told) → report_of (refused t) ≡ refused_line t ++ 10 ∷ []
  -- "Refusals: none new"
  pub none_new : {g : CountsAndRules} {m m' : BookMemory} (q : Refusal) → run_book_call.Promise g m m' (refused_run q)
      → BookRefused g.counts m.blocks g.rules (length m.work) (told q)
