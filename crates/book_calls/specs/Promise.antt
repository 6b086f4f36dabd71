-- Document 01, "A book and its run", and document 02, order 11: what the call that runs a book promises. "Grammar,
-- counts, the 16-rule limit and any refusal are still common to all."
use Rattle.std.specs.Prelude.{◌≡◌, List, [], ℕ, length, Result, Ok, Err}
use Rattle.answers.specs.Told.{told}
use Rattle.answers.specs.declared.Refusal.{Refusal}
use Rattle.answers.specs.declared.Ran.{Ran}
use Rattle.answers.specs.declared.TextRan.{TextRan}
use Rattle.pairs.specs.Narrow.{Cleared}
use Rattle.books.specs.Refused.{BookRefused, BookAccepted}
use Rattle.groups.specs.Ends.{filled, RowRan}

-- An accepted book is run, and the work buffer cleared; a refused one leaves blocks and work, and all eight records are
-- those of no text.
abbrev pub PromiseFor : List ℕ → List ℕ → List ℕ → List ℕ → List ℕ → List ℕ → List TextRan → Result Unit Refusal → Type 0
PromiseFor counts blocks rules work blocks' work' row (Ok _) =
    BookAccepted counts blocks rules (length work) × RowRan counts blocks rules blocks' row × Cleared work work'
PromiseFor counts blocks rules work blocks' work' row (Err q) =
    BookRefused counts blocks rules (length work) (told q) × (blocks' ≡ blocks) × (work' ≡ work) × (row ≡ filled [])

-- The run of a book: blocks and work before and after the call.
abbrev pub RunPromise : List ℕ → List ℕ → List ℕ → List ℕ → List ℕ → List ℕ → Ran → Type 0
RunPromise counts blocks rules work blocks' work' r = PromiseFor counts blocks rules work blocks' work' r.texts r.checked

-- The answers: accepted with these records, or refused.
abbrev pub ran : List TextRan → Ran
ran row = record { checked = Ok tt; texts = row }

abbrev pub refused_run : Refusal → Ran
refused_run q = record { checked = Err q; texts = filled [] }
