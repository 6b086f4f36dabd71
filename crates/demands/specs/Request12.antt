-- Document 02, order 12, a field for each sentence: more rules, never more room. All is said by text, since a group
-- that grows may have another name. What a run leaves of text k is `shape_at g m' k`, what it answers `text_ran row k`.
use Rattle.std.specs.Prelude.{◌≡◌, List, ◌++◌, ℕ, length}
use Rattle.answers.specs.declared.Ended.{Ended}
use Rattle.answers.specs.declared.TextRan.{TextRan}
use Rattle.rules.specs.declared.Rule.{Rule}
use Rattle.rules.specs.Rule.{numbers_of_all}
use Rattle.shapes.specs.Shape.{Block}
use Rattle.shapes.specs.Lent.{shape_of}
use Rattle.hulls.specs.Book.{Within}
use Rattle.books.specs.Counts.{shape_in}
use Rattle.books.specs.Rules.{Names}
use Rattle.groups.specs.Linked.{Linked}
use Rattle.groups.specs.Own.{OwnRules}
use Rattle.groups.specs.Same.{SameGroup}
use Rattle.groups.specs.Ends.{text_ran}
use Rattle.more_rules.specs.Strict.{AsStrict}
use Rattle.more_rules.specs.Ends.{MayEnd, RecordAgain, GroupsAgain}
use Rattle.file_lines.specs.Grammar.{writing}
use Rattle.file_lines.specs.Book.{Sheet, Book, book_parts}
use Rattle.files.specs.Departs.{FileAccepted}
use Rattle.file_runs.specs.Ends.{FileEnds}
use Rattle.file_reports.specs.Report.{Verdict}
use Rattle.file_reports.specs.Report.Verdict.{ran}
use Rattle.demands.specs.Call.{CountsAndRules, counts_and_rules, BookMemory, AcceptedWith, given_of, lent_blocks}
use Rattle.demands.specs.Calls.{book_of_own, RunOf}

-- The shape of text k among the lent blocks.
abbrev pub shape_at : CountsAndRules → BookMemory → ℕ → List Block
shape_at g m k = shape_in g.counts (shape_of m.blocks) k

-- The book o, with the blocks ys, is at least as strict as g with the blocks xs.
abbrev pub Stricter : CountsAndRules → List ℕ → CountsAndRules → List ℕ → Type 0
Stricter g xs o ys = AsStrict g.counts xs g.rules o.counts ys o.rules

-- Two runs, of book A and of a book B that is at least as strict: "both books must be accepted", and are (`RunOf`).
pub record StricterRun (g : CountsAndRules) (m m' : BookMemory) (row : List TextRan) (o : CountsAndRules) (n n' : BookMemory) (others : List TextRan) : Type 0 where
  pub first : RunOf g m m' row
  pub second : RunOf o n n' others
  pub strict : Stricter g m.blocks o n.blocks

-- A run, and a run of what it left in the blocks, with the same rules.
pub record RunAgain (g : CountsAndRules) (m m' : BookMemory) (row : List TextRan) (n n' : BookMemory) (later : List TextRan) : Type 0 where
  pub first : RunOf g m m' row
  pub second : RunOf g n n' later
  pub lent : n.blocks ≡ m'.blocks

-- The book of a report: its sheet, with the rules of the file behind it.
abbrev pub book_again : Book → Sheet → Book
book_again b s = record { sheet = s; rules = b.rules }

pub record Request12 : Type 1 where
  -- "book B has the texts of book A, each block equal or narrower .., and all A's rules and perhaps others": so has a
  -- book itself, one with rules or texts entered behind its own, what a run left of it, and one as strict as such a one
  pub itself : (g : CountsAndRules) (blocks : List ℕ) → Stricter g blocks g blocks
  pub rules_behind : {g : CountsAndRules} {blocks : List ℕ} {w : ℕ} (more : List ℕ) → AcceptedWith g blocks w
      → Stricter g blocks (counts_and_rules g.counts (g.rules ++ more)) blocks
  pub texts_behind : {g : CountsAndRules} {blocks : List ℕ} {w : ℕ} (others more : List ℕ) → AcceptedWith g blocks w
      → Stricter g blocks (counts_and_rules (g.counts ++ others) g.rules) (blocks ++ more)
  pub what_is_left : {g : CountsAndRules} {m m' : BookMemory} {row : List TextRan} → RunOf g m m' row → Stricter g m.blocks g m'.blocks
  pub through : {g o p : CountsAndRules} {xs ys zs : List ℕ} → Stricter g xs o ys → Stricter o ys p zs → Stricter g xs p zs
  -- links grow: texts in one group of A are in one group of B
  pub links_grow : {g o : CountsAndRules} {xs ys : List ℕ} {k l : ℕ} → Stricter g xs o ys → Linked g.rules k l → Linked o.rules k l
  pub groups_grow : {g o : CountsAndRules} {m m' n n' : BookMemory} {row others : List TextRan} → StricterRun g m m' row o n n' others
      → (k l : ℕ) → Names g.counts k → Names g.counts l → (text_ran row k).group ≡ (text_ran row l).group → (text_ran others k).group ≡ (text_ran others l).group
  -- all that more rules and less room can do to a text
  pub may_end : {g o : CountsAndRules} {m m' n n' : BookMemory} {row others : List TextRan} → StricterRun g m m' row o n n' others → (k : ℕ) → Names g.counts k
      → MayEnd (shape_at g m' k) (shape_at o n k) (shape_at o n' k) (text_ran row k).ended (text_ran others k).ended
  -- "then a group of A that is none lies within a group of B that is none" (with `groups_grow`)
  pub none_stays : {g o : CountsAndRules} {m m' n n' : BookMemory} {row others : List TextRan} → StricterRun g m m' row o n n' others → (k c : ℕ) → Names g.counts k
      → (text_ran row k).ended ≡ Ended.None c → (d : ℕ) × ((text_ran others k).ended ≡ Ended.None d)
  -- "and each text whose group in B is stable ends in B no wider, block for block, than in A", where it is stable too
  pub never_wider : {g o : CountsAndRules} {m m' n n' : BookMemory} {row others : List TextRan} → StricterRun g m m' row o n n' others → (k d : ℕ) → Names g.counts k
      → (text_ran others k).ended ≡ Ended.Stable d
      → (c : ℕ) × ((text_ran row k).ended ≡ Ended.Stable c) × Within (shape_at o n' k) (shape_at g m' k)
  -- "running a report's stable shapes with their rules again changes nothing"
  pub nothing_changes : {g : CountsAndRules} {m m' n n' : BookMemory} {row later : List TextRan} → RunAgain g m m' row n n' later → n'.blocks ≡ n.blocks
  -- "with a count for each group equal to its number of rules"; a none comes again as it came
  pub counts_again : {g : CountsAndRules} {m m' n n' : BookMemory} {row later : List TextRan} → RunAgain g m m' row n n' later → (k : ℕ) → Names g.counts k
      → RecordAgain g.rules (text_ran row k) (text_ran later k)
  -- and no other group counts just its rules: a text of a stable one that does was entered as it ends
  pub final_entered : {g : CountsAndRules} {m m' : BookMemory} {row : List TextRan} {own : List Rule} → RunOf g m m' row → (k : ℕ) → Names g.counts k
      → OwnRules g.rules (text_ran row k).group own → (text_ran row k).ended ≡ Ended.Stable (length own) → shape_at g m' k ≡ shape_at g m k
  -- of a stable group as it was left, in whatever accepted book holds it, under whatever numbers
  pub held_again : {E : ℕ → ℕ → Type 0} {g o : CountsAndRules} {m m' n n' : BookMemory} {row others : List TextRan} {h : ℕ} → RunOf g m m' row → RunOf o n n' others
      → (k l c : ℕ) → (text_ran row k).ended ≡ Ended.Stable c
      → SameGroup E g.counts m'.blocks g.rules (text_ran row k).group o.counts n.blocks o.rules h → E k l
      → {own : List Rule} → OwnRules g.rules (text_ran row k).group own
      → ((text_ran others l).ended ≡ Ended.Stable (length own)) × (shape_at o n' l ≡ shape_at g m' k)
  -- and such is the book of its rules alone
  pub rules_alone : {g : CountsAndRules} {m m' n n' : BookMemory} {row others : List TextRan} {own : List Rule} → RunOf g m m' row → (k c : ℕ) → Names g.counts k
      → (text_ran row k).ended ≡ Ended.Stable c → OwnRules g.rules (text_ran row k).group own → RunOf (book_of_own g own) n n' others → n.blocks ≡ m'.blocks
      → ((text_ran others k).ended ≡ Ended.Stable (length own)) × (shape_at g n' k ≡ shape_at g m' k)
  -- over files: a report's texts and blocks, with the file's rules behind them, are the file of an accepted book, and
  -- its report has the same texts and blocks, and the same groups, but for the counts of the stable ones
  pub file_again : {file : List ℕ} {b : Book} {gs : List TextRan} {s : Sheet} → FileAccepted file b → FileEnds file (ran gs s)
      → FileAccepted (writing (book_parts (book_again b s))) (book_again b s) × AcceptedWith (given_of (book_again b s)) (lent_blocks (book_again b s)) 63001
  pub report_again : {file : List ℕ} {b : Book} {gs : List TextRan} {s : Sheet} {v : Verdict} → FileAccepted file b → FileEnds file (ran gs s)
      → FileEnds (writing (book_parts (book_again b s))) v → (hs : List TextRan) × (v ≡ ran hs s) × GroupsAgain (numbers_of_all b.rules) gs hs
