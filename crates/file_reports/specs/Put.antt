-- What the inner functions of writing a report answer, and the room that they want.
use Rattle.std.specs.Prelude.{◌≡◌, List, [], ◌∷◌, ◌++◌, map, ℕ, ◌+◌, ◌*◌, length}
use Rattle.std.proofs.lemmas.List.Edits.{sets}
use Rattle.file_numerals.specs.Digits.{decimal}
use Rattle.answers.specs.declared.TextRan.{TextRan}
use Rattle.groups.specs.Ends.{GroupsIn}
use Rattle.file_lines.specs.Grammar.{base_digits, word_of, joined}
use Rattle.file_lines.specs.Book.{Sheet}
use Rattle.file_lines.specs.declared.Width.TheVariants.{Low, Wide}
use Rattle.file_lines.specs.declared.Heading.TheVariants.{Texts, Blocks}
use Rattle.file_reports.specs.Report.{group_word, stable_word, group_line, Reported}
use Rattle.file_reports.specs.Report.Verdict.{ran}

-- t is stored from place `at` on, up to place r
pub record Wrote (out : List ℕ) (at : ℕ) (t out' : List ℕ) (r : ℕ) : Type 0 where
  pub place : r ≡ at + length t
  pub stored : out' ≡ sets out at t

-- a number after a blank
unfoldable pub spaced : ℕ → List ℕ
spaced n = 32 ∷ decimal n

-- two numbers, each after a blank, and the newline
unfoldable pub pair_end : ℕ → ℕ → List ℕ
unfolding spaced
pair_end a b = (spaced a ++ spaced b) ++ 10 ∷ []

-- A 64-bit number has at most 20 decimal digits; then a newline.
abbrev pub number_room : ℕ
number_room = 21

-- The words over blocks, of which `BLOCKS ` is the longer. A block's digits, of which WIDE has the more, two numbers of
-- at most 5 digits, each after a blank, and a newline.
abbrev pub heading_room : ℕ
heading_room = length (word_of (Blocks Low)) + number_room

abbrev pub block_room : ℕ
block_room = base_digits Wide + 13

-- A sheet of t texts and b blocks.
abbrev pub sheet_room : ℕ → ℕ → ℕ
sheet_room t b = length (word_of Texts) + number_room + t * number_room + (heading_room + b * block_room)

-- A group's line: its word, a name, ` STABLE `, which is the longer word, and the count. The lines of t texts at most.
abbrev pub ended_room : ℕ
ended_room = length stable_word + number_room

abbrev pub group_room : ℕ
group_room = length group_word + number_room + ended_room

-- the line of the group that the text at place k names, or nothing if it names none
pub data GroupPut (e : TextRan) (k : ℕ) (out : List ℕ) (at : ℕ) (out' : List ℕ) (r : ℕ) : Type 0 where
  named : e.group ≡ k + 1 → Wrote out at (joined (group_line e ∷ [])) out' r → GroupPut e k out at out' r
  passed : (e.group ≡ k + 1 → ⊥) → out' ≡ out → r ≡ at → GroupPut e k out at out' r

-- the lines of the groups of these texts
pub record GroupsPut (es : List TextRan) (out : List ℕ) (at : ℕ) (out' : List ℕ) (r : ℕ) : Type 0 where
  pub groups : List TextRan
  pub listed : GroupsIn 1 es groups
  pub wrote : Wrote out at (joined (map group_line groups)) out' r

-- the whole report of these texts, with the sheet
pub record RanReported (es : List TextRan) (s : Sheet) (out out' : List ℕ) (r : ℕ) : Type 0 where
  pub groups : List TextRan
  pub listed : GroupsIn 1 es groups
  pub reported : Reported (ran groups s) out out' r
