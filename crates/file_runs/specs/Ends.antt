-- Document 01, "A book and its run", and document 02, orders 10 and 11: how the run of a book file ends.
use Rattle.std.specs.Prelude.{List, ℕ}
use Rattle.answers.specs.Told.{Told}
use Rattle.answers.specs.declared.TextRan.{TextRan}
use Rattle.shapes.specs.Lent.{words_of}
use Rattle.books.specs.Refused.{BookRefused, BookAccepted}
use Rattle.groups.specs.Ends.{BookRan, GroupsIn}
use Rattle.rules.specs.Rule.{numbers_of_all}
use Rattle.file_lines.specs.declared.Width.{Width}
use Rattle.file_lines.specs.Book.{Book, sheet_of}
use Rattle.files.specs.Departs.{FileRefused, FileAccepted}
use Rattle.file_reports.specs.Report.{Verdict}
use Rattle.file_reports.specs.Report.Verdict.{ran, refused}

-- How the run of an accepted book ends: with the groups by number, and the sheet of what is left of its texts, as wide
-- as the book's.
pub data BookEnds (w : Width) (counts blocks rules : List ℕ) : Verdict → Type 0 where
  ends : {ys : List ℕ} {es gs : List TextRan} → BookRan counts blocks rules ys es → GroupsIn 1 es gs → BookEnds w counts blocks rules (ran gs (sheet_of w counts ys))

-- How a file ends: it is refused with 9 or 8; otherwise it is the writing of a book, which has all the work space it
-- wants, and is refused or run.
pub data FileEnds (file : List ℕ) : Verdict → Type 0 where
  no_book : {t : Told} → FileRefused file t → FileEnds file (refused t)
  wrong_book : {b : Book} {t : Told} → FileAccepted file b
      → BookRefused b.sheet.counts (words_of b.sheet.blocks) (numbers_of_all b.rules) 63001 t → FileEnds file (refused t)
  of_book : {b : Book} {v : Verdict} → FileAccepted file b → BookAccepted b.sheet.counts (words_of b.sheet.blocks) (numbers_of_all b.rules) 63001
      → BookEnds b.sheet.width b.sheet.counts (words_of b.sheet.blocks) (numbers_of_all b.rules) v → FileEnds file v
