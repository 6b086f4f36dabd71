-- What reading a sheet answers.
use Rattle.std.specs.Prelude.{◌≡◌, Result, Ok, Err, List, ◌++◌, ℕ, ◌+◌, ◌≤◌, length, drop}
use Rattle.shapes.specs.Lent.{words_of}
use Rattle.file_lines.specs.declared.Width.{Width}
use Rattle.file_lines.specs.Grammar.{writing, Section, InGrammar}
use Rattle.file_lines.specs.Book.{Sheet, sheet_parts, sheet_grammar}
use Rattle.files.specs.Departs.{Departs}
use Rattle.file_sections.specs.Parts.{AtFront}
use Rattle.rules.specs.Limits.{book_blocks}
use Rattle.file_sections.specs.declared.Departs.{Departs as Stop}
use Rattle.file_sheets.specs.declared.SheetAt.{SheetAt}

-- A sheet of n texts and b blocks of width w, up to place m: its numbers stand at the front of the two outputs.
pub record SheetIs (texts : ℕ) (bytes cs bs cs' bs' : List ℕ) (w : Width) (n b m : ℕ) : Type 0 where
  pub sheet : Sheet
  pub fits : InGrammar (sheet_grammar texts) (sheet_parts sheet)
  pub within : m ≤ length bytes
  pub split : bytes ≡ writing (sheet_parts sheet) ++ drop m bytes
  pub counts : AtFront sheet.counts cs cs'
  pub blocks : AtFront (words_of sheet.blocks) bs bs'
  pub wide : sheet.width ≡ w
  pub texts_many : length sheet.counts ≡ n
  pub blocks_many : length sheet.blocks ≡ b

-- Or the line after i lines departs, whatever sections follow. (i is bounded so that the line's number fits.)
abbrev pub SheetRead : ℕ → List ℕ → List ℕ → List ℕ → List ℕ → List ℕ → Result SheetAt Stop → Type 0
SheetRead texts bytes cs bs cs' bs' (Ok s) = SheetIs texts bytes cs bs cs' bs' s.width s.texts s.blocks s.end
SheetRead texts bytes cs bs cs' bs' (Err d) = ((G : List Section) → Departs (sheet_grammar texts ++ G) bytes (d.0 + 1)) × (d.0 ≤ texts + book_blocks + 2)
