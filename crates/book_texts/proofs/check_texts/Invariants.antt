-- `book_texts::check_texts`: every text passed is sound. Assumes nothing.
use Rattle.shapes.specs.Lent.{shape_of}
use Rattle.books.proofs.Tell.{SoundBefore}
use Rattle.book_texts.proofs.check_texts.Given as goal

abbrev pub invariant-loop-k : goal.invariant-loop-k
invariant-loop-k l = SoundBefore l.counts (shape_of l.blocks) l.k
