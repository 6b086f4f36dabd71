-- Document 01, "A book and its run", and document 02, orders 3 and 10: a file's bytes, and its grammar, a list of
-- sections.
use Rattle.std.specs.Prelude.{◌≡◌, List, [], ◌∷◌, ◌++◌, map, ◌⊎◌, ℕ, ◌*◌, ◌^◌, ◌≤◌, ◌<◌, length}
use Rattle.plain.specs.All.{All}
use Rattle.bases.specs.Base.{base_words}
use Rattle.rules.specs.declared.Rule.{Rule}
use Rattle.rules.specs.Rule.{rule_size, rule_numbers}
use Rattle.shapes.specs.Shape.{Block, block_size}
use Rattle.shapes.specs.Lent.{block_numbers}
use Rattle.file_numerals.specs.Digits.{digits, decimal}
use Rattle.file_numerals.specs.Read.{word_digits}
use Rattle.file_lines.specs.declared.Heading.{Heading}
use Rattle.file_lines.specs.declared.Heading.TheVariants.{Texts, Blocks, Rules}
use Rattle.file_lines.specs.declared.Width.{Width}
use Rattle.file_lines.specs.declared.Width.TheVariants.{Low, Wide}

-- ---- lines

-- A section's count stands after its word.
unfoldable pub head_line : List ℕ → ℕ → List ℕ
head_line word n = word ++ decimal n

-- Two numbers with a single blank (32).
unfoldable pub two_numbers : ℕ → ℕ → List ℕ
two_numbers a b = decimal a ++ 32 ∷ decimal b

-- How many words of a base a line says: under BLOCKS two, which are the codes up to 127, under WIDE all.
abbrev pub said_words : Width → ℕ
said_words Low = 2
said_words Wide = base_words

-- A block is 32 lowercase hex digits (code 127 leftmost), or 64 under WIDE (code 255 leftmost); lower, upper.
abbrev pub base_digits : Width → ℕ
base_digits w = said_words w * word_digits

unfoldable pub block_line : Width → Block → List ℕ
block_line w b = digits 16 (base_digits w) b.base ++ 32 ∷ two_numbers b.lower b.upper

-- A rule is its four numbers.
unfoldable pub rule_line : Rule → List ℕ
rule_line r = decimal r.kind ++ 32 ∷ (decimal r.a ++ 32 ∷ two_numbers r.b r.c)

-- Decimals are up to 65,535. A base has only characters that its line can say.
abbrev pub Writable : ℕ → Type 0
Writable n = n ≤ 65535

pub record RightBlock (w : Width) (b : Block) : Type 0 where
  pub base : b.base < 2 ^ (said_words w * 64)
  pub lower : Writable b.lower
  pub upper : Writable b.upper

pub record RuleInGrammar (r : Rule) : Type 0 where
  pub kind : Writable r.kind
  pub a : Writable r.a
  pub b : Writable r.b
  pub c : Writable r.c

-- Lines end with a newline (10).
unfoldable pub joined : List (List ℕ) → List ℕ
joined [] = []
joined (l ∷ ls) = l ++ 10 ∷ joined ls

-- ---- what stands under a heading

-- The words `TEXTS `, `BLOCKS `, `WIDE ` and `RULES `.
abbrev pub word_of : Heading → List ℕ
word_of Texts = 84 ∷ 69 ∷ 88 ∷ 84 ∷ 83 ∷ 32 ∷ []
word_of (Blocks Low) = 66 ∷ 76 ∷ 79 ∷ 67 ∷ 75 ∷ 83 ∷ 32 ∷ []
word_of (Blocks Wide) = 87 ∷ 73 ∷ 68 ∷ 69 ∷ 32 ∷ []
word_of Rules = 82 ∷ 85 ∷ 76 ∷ 69 ∷ 83 ∷ 32 ∷ []

-- A TEXTS line is a block count, a BLOCKS or WIDE line a block, a RULES line a rule: an item of the section.
abbrev pub Item : Heading → Type 0
Item Texts = ℕ
Item (Blocks w) = Block
Item Rules = Rule

-- Which items are right, an item's line, and the numbers that it is in memory.
abbrev pub RightItem : (h : Heading) → Item h → Type 0
RightItem Texts n = Writable n
RightItem (Blocks w) b = RightBlock w b
RightItem Rules r = RuleInGrammar r

abbrev pub line_of : (h : Heading) → Item h → List ℕ
line_of Texts n = decimal n
line_of (Blocks w) b = block_line w b
line_of Rules r = rule_line r

abbrev pub size_of : Heading → ℕ
size_of Texts = 1
size_of (Blocks w) = block_size
size_of Rules = rule_size

abbrev pub numbers_of : (h : Heading) → Item h → List ℕ
numbers_of Texts n = n ∷ []
numbers_of (Blocks w) b = block_numbers b
numbers_of Rules r = rule_numbers r

-- ---- a file and its grammar

-- A file is its parts in turn: a heading with the count of the items, then the items.
pub record Part : Type 0 where
  pub heading : Heading
  pub items : List (Item heading)

unfoldable pub part_lines : (h : Heading) → List (Item h) → List (List ℕ)
part_lines h xs = head_line (word_of h) (length xs) ∷ map (line_of h) xs

unfoldable pub lines_of : List Part → List (List ℕ)
lines_of [] = []
lines_of (p ∷ X) = part_lines p.heading p.items ++ lines_of X

unfoldable pub writing : List Part → List ℕ
writing X = joined (lines_of X)

-- A grammar is a list of sections, each a heading, or another in its place, and how many items there may be under it.
-- A part for each section, and no other.
pub record Section : Type 0 where
  pub heading : Heading
  pub other : Heading
  pub most : ℕ

abbrev pub Heads : Section → Heading → Type 0
Heads s h = (h ≡ s.heading) ⊎ (h ≡ s.other)

pub record InSection (s : Section) (p : Part) : Type 0 where
  pub heading : Heads s p.heading
  pub few : length p.items ≤ s.most
  pub right : All (RightItem p.heading) p.items

pub data InGrammar : List Section → List Part → Type 0 where
  none : InGrammar [] []
  more : {s : Section} {G : List Section} {p : Part} {X : List Part} → InSection s p → InGrammar G X → InGrammar (s ∷ G) (p ∷ X)
