-- What reading a book file promises.
use Rattle.std.specs.Prelude.{◌≡◌, Result, Ok, Err, List, ℕ, length}
use Rattle.answers.specs.declared.Refusal.{Refusal}
use Rattle.answers.specs.Told.{told}
use Rattle.rules.specs.Rule.{numbers_of_all}
use Rattle.shapes.specs.Lent.{words_of}
use Rattle.file_lines.specs.Book.{Book}
use Rattle.files.specs.Departs.{FileAccepted, FileRefused}
use Rattle.file_sections.specs.Parts.{AtFront}
use Rattle.file_books.specs.declared.Sizes.{Sizes}

-- How wide its blocks are said, and how many texts, blocks and rules a book has.
abbrev pub sizes_of : Book → Sizes
sizes_of b = record { width = b.sheet.width; texts = length b.sheet.counts; blocks = length b.sheet.blocks; rules = length b.rules }

-- The file is the writing of a book, whose numbers stand at the front of the three outputs.
pub record BookRead (file cs bs rs cs' bs' rs' : List ℕ) (z : Sizes) : Type 0 where
  pub book : Book
  pub accepted : FileAccepted file book
  pub sizes : z ≡ sizes_of book
  pub counts : AtFront book.sheet.counts cs cs'
  pub blocks : AtFront (words_of book.sheet.blocks) bs bs'
  pub rules : AtFront (numbers_of_all book.rules) rs rs'

-- After a refusal the outputs hold anything: they are the caller's own space for the book.
abbrev pub ReadPromise : List ℕ → List ℕ → List ℕ → List ℕ → List ℕ → List ℕ → List ℕ → Result Sizes Refusal → Type 0
ReadPromise file cs bs rs cs' bs' rs' (Ok z) = BookRead file cs bs rs cs' bs' rs' z
ReadPromise file cs bs rs cs' bs' rs' (Err r) = FileRefused file (told r)
