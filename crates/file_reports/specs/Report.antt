-- Document 01, "A book and its run", and document 02, orders 10 and 11: the report that the program prints.
use Rattle.std.specs.Prelude.{◌≡◌, List, [], ◌∷◌, ◌++◌, map, ℕ, ◌≤◌, length, drop}
use Rattle.answers.specs.Told.{Told}
use Rattle.answers.specs.declared.Ended.{Ended}
use Rattle.answers.specs.declared.Ended.TheVariants.{Stable as is-stable, None as is_none}
use Rattle.answers.specs.declared.TextRan.{TextRan}
use Rattle.file_lines.specs.Grammar.{head_line, two_numbers, joined, Part, writing}
use Rattle.file_lines.specs.Book.{Sheet, sheet_parts, file_limit}

-- How a book ends: run, with the records of its groups, by number, and the sheet of what is left of all texts; or
-- refused.
pub data Verdict : Type 0 where
  ran : List TextRan → Sheet → Verdict
  refused : Told → Verdict

-- `GROUP `, ` STABLE `, ` NONE ` and `REFUSED `
abbrev pub group_word : List ℕ
group_word = 71 ∷ 82 ∷ 79 ∷ 85 ∷ 80 ∷ 32 ∷ []

abbrev pub stable_word : List ℕ
stable_word = 32 ∷ 83 ∷ 84 ∷ 65 ∷ 66 ∷ 76 ∷ 69 ∷ 32 ∷ []

abbrev pub none_word : List ℕ
none_word = 32 ∷ 78 ∷ 79 ∷ 78 ∷ 69 ∷ 32 ∷ []

abbrev pub refused_word : List ℕ
refused_word = 82 ∷ 69 ∷ 70 ∷ 85 ∷ 83 ∷ 69 ∷ 68 ∷ 32 ∷ []

-- number, text and place after the word
unfoldable pub refused_line : Told → List ℕ
refused_line t = head_line refused_word t.number ++ 32 ∷ two_numbers t.text t.place

-- how a group ends, with the count of applications
unfoldable pub ended_line : Ended → List ℕ
ended_line (is-stable n) = head_line stable_word n
ended_line (is_none n) = head_line none_word n

-- `GROUP g STABLE count` or `GROUP g NONE count`
unfoldable pub group_line : TextRan → List ℕ
group_line e = head_line group_word e.group ++ ended_line e.ended

-- The head of a report: the groups, or REFUSED with its three numbers.
unfoldable pub head_of : Verdict → List (List ℕ)
head_of (ran gs s) = map group_line gs
head_of (refused t) = refused_line t ∷ []

-- After the groups the sections TEXTS and BLOCKS or WIDE, as a file has them; REFUSED stands alone.
unfoldable pub sheet_after : Verdict → List Part
sheet_after (ran gs s) = sheet_parts s
sheet_after (refused t) = []

unfoldable pub report_of : Verdict → List ℕ
report_of v = joined (head_of v) ++ writing (sheet_after v)

-- The report stands at the start of the output, of length n and at most 32,768 bytes; the rest of the output stays.
pub record Reported (v : Verdict) (out out' : List ℕ) (n : ℕ) : Type 0 where
  pub count : n ≡ length (report_of v)
  pub short : n ≤ file_limit
  pub bytes : out' ≡ report_of v ++ drop n out
