-- What the inner functions of reading a section answer: a line at the start of some bytes, the lines of a section, the
-- whole of it.
use Rattle.std.specs.Prelude.{◌≡◌, Option, Some, None, Result, Ok, Err, List, ◌∷◌, ◌++◌, map, ℕ, ◌+◌, ◌≤◌, ◌<◌, length, drop}
use Rattle.plain.specs.All.{All}
use Rattle.plain.specs.Items.{join_items, PutItem}
use Rattle.file_lines.specs.declared.Heading.{Heading}
use Rattle.file_lines.specs.Grammar.{head_line, joined, word_of, Item, RightItem, line_of, size_of, numbers_of, part_lines, Section, Heads}
use Rattle.file_lines.specs.Lines.{Says, SaysNone, Opens, OpensNone}
use Rattle.files.specs.Departs.{Departs}
use Rattle.file_sections.specs.declared.Departs.{Departs as Stop}

-- The numbers xs stand at the front of an output, and the rest of it stays.
abbrev pub AtFront : List ℕ → List ℕ → List ℕ → Type 0
AtFront xs out out' = out' ≡ xs ++ drop (length xs) out

-- The numbers of some items.
abbrev pub items_numbers : (h : Heading) → List (Item h) → List ℕ
items_numbers h xs = join_items (map (numbers_of h) xs)

-- a section's count on the first line
abbrev pub HeadAt : Heading → ℕ → List ℕ → Option (ℕ × ℕ) → Type 0
HeadAt h most bytes (Some p) = Opens 10 (λ (k : ℕ). k ≤ most) (head_line (word_of h)) bytes p.0 p.1
HeadAt h most bytes None = OpensNone 10 (λ (k : ℕ). k ≤ most) (head_line (word_of h)) bytes

-- what one line says is stored as item number i
pub record LineStored (h : Heading) (line : List ℕ) (i : ℕ) (out out' : List ℕ) : Type 0 where
  pub item : Item h
  pub says : Says (RightItem h) (line_of h) line item
  pub stored : PutItem (size_of h) out i (numbers_of h item) out'

abbrev pub LineRead : Heading → List ℕ → ℕ → List ℕ → List ℕ → Option Unit → Type 0
LineRead h line i out out' (Some u) = LineStored h line i out out'
LineRead h line i out out' None = SaysNone (RightItem h) (line_of h) line

-- the first line of the bytes, to place m
pub record LineTaken (h : Heading) (bytes : List ℕ) (m i : ℕ) (out out' : List ℕ) : Type 0 where
  pub item : Item h
  pub line : Opens 10 (RightItem h) (line_of h) bytes item m
  pub stored : PutItem (size_of h) out i (numbers_of h item) out'

abbrev pub LineHere : Heading → List ℕ → ℕ → List ℕ → List ℕ → Option ℕ → Type 0
LineHere h bytes i out out' (Some m) = LineTaken h bytes m i out out'
LineHere h bytes i out out' None = OpensNone 10 (RightItem h) (line_of h) bytes

-- the first n lines of the bytes, to place m, are items, whose numbers are stored
pub record LinesAre (h : Heading) (bytes out out' : List ℕ) (n m : ℕ) : Type 0 where
  pub items : List (Item h)
  pub count : length items ≡ n
  pub right : All (RightItem h) items
  pub within : m ≤ length bytes
  pub split : bytes ≡ joined (map (line_of h) items) ++ drop m bytes
  pub stored : AtFront (items_numbers h items) out out'

-- only the first i lines are items
pub record LinesStop (h : Heading) (bytes : List ℕ) (i : ℕ) : Type 0 where
  pub items : List (Item h)
  pub count : length items ≡ i
  pub right : All (RightItem h) items
  pub rest : List ℕ
  pub split : bytes ≡ joined (map (line_of h) items) ++ rest
  pub stop : OpensNone 10 (RightItem h) (line_of h) rest

abbrev pub LinesRead : Heading → ℕ → List ℕ → List ℕ → List ℕ → Result ℕ Stop → Type 0
LinesRead h n bytes out out' (Ok m) = LinesAre h bytes out out' n m
LinesRead h n bytes out out' (Err d) = LinesStop h bytes d.0 × (d.0 < n)

-- A section headed h at the start of the bytes, to place m: its n items, whose numbers are stored.
pub record SectionIs (h : Heading) (most : ℕ) (bytes out out' : List ℕ) (n m : ℕ) : Type 0 where
  pub items : List (Item h)
  pub count : length items ≡ n
  pub few : n ≤ most
  pub right : All (RightItem h) items
  pub within : m ≤ length bytes
  pub split : bytes ≡ joined (part_lines h items) ++ drop m bytes
  pub stored : AtFront (items_numbers h items) out out'

-- Of the headings of a section these bytes can have h alone.
pub record HeadedBy (s : Section) (h : Heading) (bytes : List ℕ) : Type 0 where
  pub heads : Heads s h
  pub only : (k : Heading) → Heads s k → (n : ℕ) (after : List ℕ) → bytes ≡ head_line (word_of k) n ++ 10 ∷ after → k ≡ h

-- Or the line after i lines departs from each section of so many items that the bytes can head by h alone, whatever
-- sections follow. (i is bounded so that the line's number fits.)
abbrev pub SectionRead : Heading → ℕ → List ℕ → List ℕ → List ℕ → Result (ℕ × ℕ) Stop → Type 0
SectionRead h most bytes out out' (Ok p) = SectionIs h most bytes out out' p.0 p.1
SectionRead h most bytes out out' (Err d) =
    ((s : Section) (G : List Section) → s.most ≡ most → HeadedBy s h bytes → Departs (s ∷ G) bytes (d.0 + 1)) × (d.0 ≤ most + 1)
