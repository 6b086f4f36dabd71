-- Document 01's example of a book file, byte by byte, its rule with the fourth number of document 02, order 3. Assumes
-- nothing.
use mathlib.Core.Path.{◌≡◌, refl}
use mathlib.Core.List.{List, [], ◌∷◌}
use Prim.Native.Nat.{ℕ}
use Rattle.file_numerals.specs.Digits.{glyph, digits, decimal_by, decimal}
use Rattle.shapes.specs.Shape.{Block}
use Rattle.file_lines.specs.declared.Width.TheVariants.{Low}
use Rattle.file_lines.specs.Grammar.{head_line, two_numbers, block_line, rule_line, part_lines, lines_of, joined, writing}
use Rattle.file_lines.specs.Book.{Book, sheet_parts, book_parts}

block : ℕ → ℕ → ℕ → Block
block b l u = record { base = b; lower = l; upper = u }

pub example_book : Book
unfolding block
example_book =
    record {
      sheet = record { width = Low; counts = 1 ∷ 1 ∷ []; blocks = block 0x0000000e000000000000000000000000 0 3 ∷ block 0x0000001c000000000000000000000000 2 2 ∷ [] };
      rules = record { kind = 0; a = 1; b = 2; c = 0 } ∷ [];
    }

pub example_file : List ℕ
example_file =
    84 ∷ 69 ∷ 88 ∷ 84 ∷ 83 ∷ 32 ∷ 50 ∷ 10 ∷ 49 ∷ 10 ∷ 49 ∷ 10 ∷ 66 ∷ 76 ∷ 79 ∷ 67 ∷ 75 ∷ 83 ∷ 32 ∷ 50 ∷ 10 ∷ 48 ∷ 48 ∷ 48 ∷ 48 ∷ 48 ∷ 48 ∷ 48 ∷ 101 ∷ 48 ∷ 48 ∷ 48 ∷ 48 ∷ 48 ∷ 48 ∷ 48 ∷ 48 ∷ 48 ∷ 48 ∷ 48 ∷ 48 ∷ 48 ∷ 48 ∷ 48 ∷ 48 ∷ 48 ∷ 48 ∷ 48 ∷ 48 ∷ 48 ∷ 48 ∷ 48 ∷ 48 ∷ 32 ∷ 48 ∷ 32 ∷ 51 ∷ 10 ∷ 48 ∷ 48 ∷ 48 ∷ 48 ∷ 48 ∷ 48 ∷ 49 ∷ 99 ∷ 48 ∷ 48 ∷ 48 ∷ 48 ∷ 48 ∷ 48 ∷ 48 ∷ 48 ∷ 48 ∷ 48 ∷ 48 ∷ 48 ∷ 48 ∷ 48 ∷ 48 ∷ 48 ∷ 48 ∷ 48 ∷ 48 ∷ 48 ∷ 48 ∷ 48 ∷ 48 ∷ 48 ∷ 32 ∷ 50 ∷ 32 ∷ 50 ∷ 10 ∷ 82 ∷ 85 ∷ 76 ∷ 69 ∷ 83 ∷ 32 ∷ 49 ∷ 10 ∷ 48 ∷ 32 ∷ 49 ∷ 32 ∷ 50 ∷ 32 ∷ 48 ∷ 10 ∷ []

pub example : writing (book_parts example_book) ≡ example_file
unfolding example_book example_file writing sheet_parts book_parts part_lines lines_of joined head_line two_numbers block_line rule_line decimal decimal_by digits glyph
example = refl
