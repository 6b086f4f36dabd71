-- Document 01, "A book and its run", and document 02, order 10: a book, its parts in a file, and its grammar.
use Rattle.std.specs.Prelude.{List, [], ◌∷◌, ◌++◌, ℕ}
use Rattle.rules.specs.declared.Rule.{Rule}
use Rattle.shapes.specs.Shape.{Block}
use Rattle.shapes.specs.Lent.{shape_of}
use Rattle.rules.specs.Limits.{most_texts, book_blocks, most_rules}
use Rattle.file_lines.specs.declared.Heading.{Heading}
use Rattle.file_lines.specs.declared.Heading.TheVariants.{Texts, Blocks, Rules}
use Rattle.file_lines.specs.declared.Width.{Width}
use Rattle.file_lines.specs.declared.Width.TheVariants.{Low, Wide}
use Rattle.file_lines.specs.Grammar.{Item, Part, Section}

-- A sheet: the block count of each text, and the blocks of all texts, as wide as the heading over them says. A book: a
-- sheet and the rules.
pub record Sheet : Type 0 where
  pub width : Width
  pub counts : List ℕ
  pub blocks : List Block

pub record Book : Type 0 where
  pub sheet : Sheet
  pub rules : List Rule

-- The sheet that some numbers are: block counts, and the numbers of blocks.
abbrev pub sheet_of : Width → List ℕ → List ℕ → Sheet
sheet_of w counts blocks = record { width = w; counts = counts; blocks = shape_of blocks }

-- Their parts in a file.
abbrev pub part : (h : Heading) → List (Item h) → Part
part h xs = record { heading = h; items = xs }

unfoldable pub sheet_parts : Sheet → List Part
sheet_parts s = part Texts s.counts ∷ part (Blocks s.width) s.blocks ∷ []

unfoldable pub book_parts : Book → List Part
unfolding sheet_parts
book_parts b = sheet_parts b.sheet ++ part Rules b.rules ∷ []

-- A section of one heading, and that of the blocks, which is headed BLOCKS or WIDE.
abbrev pub section : Heading → ℕ → Section
section h n = record { heading = h; other = h; most = n }

abbrev pub blocks_section : Section
blocks_section = record { heading = Blocks Low; other = Blocks Wide; most = book_blocks }

-- The sections of a sheet of so many texts at most, and of a book, in their order. Texts over 8, blocks over 256 or
-- rules over 16 depart.
abbrev pub sheet_grammar : ℕ → List Section
sheet_grammar texts = section Texts texts ∷ blocks_section ∷ []

abbrev pub book_grammar : List Section
book_grammar = sheet_grammar most_texts ++ section Rules most_rules ∷ []

-- The input limit, which is also the room that a report wants: 32,768 bytes.
abbrev pub file_limit : ℕ
file_limit = 32768
