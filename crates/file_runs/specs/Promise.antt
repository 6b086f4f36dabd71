-- What running a book file to its report promises, with a work buffer that is lent or with one of the call's own.
use Rattle.answers.specs.declared.Refusal.{Refusal}
use Rattle.std.specs.Prelude.{◌≡◌, List, [], ◌∷◌, ℕ, ◌≤◌, length, Result, Ok, Err}
use Rattle.answers.specs.Told.{Told, tell, told}
use Rattle.answers.specs.Turns.{Turn, FirstDue, in_turn, need}
use Rattle.shapes.specs.Lent.{words_of}
use Rattle.pairs.specs.Narrow.{Cleared}
use Rattle.books.specs.Refused.{BookAccepted, of_lent_book}
use Rattle.file_lines.specs.declared.Width.{Width}
use Rattle.file_lines.specs.Book.{Book, file_limit}
use Rattle.files.specs.Departs.{FileRefused, FileAccepted}
use Rattle.file_reports.specs.Report.{Verdict, Reported}
use Rattle.rules.specs.Rule.{numbers_of_all}
use Rattle.file_runs.specs.Ends.{BookEnds}

-- The report of the verdict that is due stands at the start of the output; the rest of the output stays.
pub record Report (Due : Verdict → Type 0) (out out' : List ℕ) (n : ℕ) : Type 0 where
  pub verdict : Verdict
  pub due : Due verdict
  pub reported : Reported verdict out out' n

-- The refusals of running a book to its report, with a work buffer of `work` bytes: the book's, 4 among them; then 5,
-- for an output under 32,768 bytes.
abbrev pub report_turns : List ℕ → List ℕ → List ℕ → ℕ → ℕ → List Turn
report_turns counts blocks rules work room = of_lent_book counts blocks rules work ∷ need (file_limit ≤ room) (tell 5 0 0) ∷ []

abbrev pub ReportRefused : List ℕ → List ℕ → List ℕ → ℕ → ℕ → Told → Type 0
ReportRefused counts blocks rules work room = FirstDue (report_turns counts blocks rules work room)

-- Otherwise the book is run, and the report of how its run ends is written.
pub record ReportWritten (w : Width) (counts blocks rules : List ℕ) (work : ℕ) (out out' : List ℕ) (n : ℕ) : Type 0 where
  pub accepted : BookAccepted counts blocks rules work
  pub room : file_limit ≤ length out
  pub report : Report (BookEnds w counts blocks rules) out out' n

-- What is answered, and what is left in the output: a refusal carries number, text and place, and leaves the output as
-- on entry.
abbrev pub BookAnswer : Width → List ℕ → List ℕ → List ℕ → ℕ → List ℕ → List ℕ → Result ℕ Refusal → Type 0
BookAnswer w counts blocks rules work out out' (Ok n) = ReportWritten w counts blocks rules work out out' n
BookAnswer w counts blocks rules work out out' (Err r) = ReportRefused counts blocks rules work (length out) (told r) × (out' ≡ out)

-- P holds of the book that the file is the writing of.
pub data ItsBook (file : List ℕ) (P : Book → Type 0) : Type 0 where
  its_book : {b : Book} → FileAccepted file b → P b → ItsBook file P

abbrev pub of_its_book : List ℕ → (Book → Turn) → Turn
of_its_book file turn = record { good = ItsBook file (λ b. (turn b).good); due = λ t. ItsBook file (λ b. (turn b).due t) }

-- "A file: 9, 8, then the book's."
abbrev pub of_file : List ℕ → Turn
of_file file = record { good = (b : Book) × FileAccepted file b; due = FileRefused file }

abbrev pub of_report : ℕ → ℕ → Book → Turn
of_report work room b =
    let counts = b.sheet.counts in
    let blocks = words_of b.sheet.blocks in
    let rules = numbers_of_all b.rules in
    in_turn (BookAccepted counts blocks rules work × (file_limit ≤ room)) (report_turns counts blocks rules work room)

abbrev pub run_turns : List ℕ → ℕ → ℕ → List Turn
run_turns file work room = of_file file ∷ of_its_book file (of_report work room) ∷ []

abbrev pub RunRefused : List ℕ → ℕ → ℕ → Told → Type 0
RunRefused file work room = FirstDue (run_turns file work room)

-- Otherwise the file is the writing of a book, and the report is that of this book's run.
pub record RunWritten (file : List ℕ) (work : ℕ) (out out' : List ℕ) (n : ℕ) : Type 0 where
  pub book : Book
  pub accepted : FileAccepted file book
  pub written : ReportWritten book.sheet.width book.sheet.counts (words_of book.sheet.blocks) (numbers_of_all book.rules) work out out' n

-- The same of a file.
abbrev pub FileAnswer : List ℕ → ℕ → List ℕ → List ℕ → Result ℕ Refusal → Type 0
FileAnswer file work out out' (Ok n) = RunWritten file work out out' n
FileAnswer file work out out' (Err r) = RunRefused file work (length out) (told r) × (out' ≡ out)

-- A lent work buffer: cleared by an accepted call, untouched by a refusal.
abbrev pub WorkLeft : List ℕ → List ℕ → Result ℕ Refusal → Type 0
WorkLeft work work' (Ok n) = Cleared work work'
WorkLeft work work' (Err r) = work' ≡ work

-- With a lent work buffer (document 02, order 4), so that 4 comes where it is under 63,001 bytes.
abbrev pub LentPromise : List ℕ → List ℕ → List ℕ → List ℕ → List ℕ → Result ℕ Refusal → Type 0
LentPromise file out work out' work' r = FileAnswer file (length work) out out' r × WorkLeft work work' r

-- With a work buffer of its own, of 63,001 bytes, so that 4 never comes.
abbrev pub FilePromise : List ℕ → List ℕ → List ℕ → Result ℕ Refusal → Type 0
FilePromise file out out' r = FileAnswer file 63001 out out' r
