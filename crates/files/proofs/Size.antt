-- A book that the grammar allows has a file within the input limit. Assumes nothing.
use mathlib.Core.Path.{ap, ◌∙◌}
use mathlib.Core.List.{List, [], ◌∷◌, ◌++◌, map}
use Prim.Native.Nat.{ℕ, ◌+◌, ◌*◌, ◌≤◌}
use native.Mathlib.Omega.{arith}
use lib.ListN.{length, length-append}
use Rattle.plain.specs.All.{All}
use Rattle.plain.specs.All.All.{none, more}
use Rattle.rules.specs.declared.Rule.{Rule}
use Rattle.shapes.specs.Shape.{Block}
use Rattle.file_numerals.specs.Digits.{digits, decimal}
use Rattle.file_numerals.proofs.Digits.{decimal_few, digits_length}
use Rattle.file_lines.specs.declared.Heading.{Heading}
use Rattle.file_lines.specs.declared.Heading.TheVariants.{Texts, Blocks, Rules}
use Rattle.file_lines.specs.declared.Width.{Width}
use Rattle.file_lines.specs.declared.Width.TheVariants.{Low, Wide}
use Rattle.file_lines.specs.Grammar.{head_line, two_numbers, base_digits, block_line, rule_line, RightBlock, RuleInGrammar, joined, word_of, Item, RightItem, line_of, Part, part_lines, lines_of, writing, Section, InSection, InGrammar}
use Rattle.file_lines.specs.Grammar.InGrammar.{none as no_part, more as one-part}
use Rattle.file_lines.specs.Book.{Book, book_parts, book_grammar, file_limit}
use Rattle.file_lines.proofs.Joined.{joined_append}

-- ---- a line

number_most : (n : ℕ) → n ≤ 65535 → length (decimal n) ≤ 5
number_most n h = decimal_few n 5 (omega arith) (omega arith)

two_most : (a b : ℕ) → a ≤ 65535 → b ≤ 65535 → length (two_numbers a b) ≤ 11
unfolding two_numbers
two_most a b h l = let e = length-append (decimal a) (32 ∷ decimal b) in let x = number_most a h in let y = number_most b l in omega arith

digits_most : (w : Width) → base_digits w ≤ 64
digits_most Low = omega arith
digits_most Wide = omega arith

block_most : (w : Width) (b : Block) → RightBlock w b → length (block_line w b) ≤ 76
unfolding block_line
block_most w b r =
    let e = length-append (digits 16 (base_digits w) b.base) (32 ∷ two_numbers b.lower b.upper) in
    let d = digits_length 16 (base_digits w) b.base in
    let m = digits_most w in
    let t = two_most b.lower b.upper r.lower r.upper in
    omega arith

rule_most : (r : Rule) → RuleInGrammar r → length (rule_line r) ≤ 76
unfolding rule_line
rule_most r g =
    let e = length-append (decimal r.kind) (32 ∷ (decimal r.a ++ 32 ∷ two_numbers r.b r.c)) in
    let f = length-append (decimal r.a) (32 ∷ two_numbers r.b r.c) in
    let x = number_most r.kind g.kind in
    let y = number_most r.a g.a in
    let z = two_most r.b r.c g.b g.c in
    omega arith

line_most : (h : Heading) (x : Item h) → RightItem h x → length (line_of h x) ≤ 76
line_most Texts n r = let x = number_most n r in omega arith
line_most (Blocks w) b r = block_most w b r
line_most Rules t r = rule_most t r

-- ---- a part, and a book

items_most : (h : Heading) {xs : List (Item h)} → All (RightItem h) xs → length (joined (map (line_of h) xs)) ≤ length xs * 77
unfolding joined
items_most h none = omega arith
items_most h (more {a = x} {l = xs} r a) =
    let e = length-append (line_of h x) (10 ∷ joined (map (line_of h) xs)) in
    let l = line_most h x r in
    let m = items_most h a in
    omega arith

word_most : (h : Heading) → length (word_of h) ≤ 7
word_most Texts = omega arith
word_most (Blocks Low) = omega arith
word_most (Blocks Wide) = omega arith
word_most Rules = omega arith

part_most : {s : Section} {p : Part} → InSection s p → s.most ≤ 65535 → length (joined (part_lines p.heading p.items)) ≤ 13 + s.most * 77
unfolding part_lines head_line joined
part_most {s} {p} r h =
    let h' = p.heading in
    let n = length p.items in
    let few = r.few in
    let e = length-append (word_of h' ++ decimal n) (10 ∷ joined (map (line_of h') p.items)) in
    let f = length-append (word_of h') (decimal n) in
    let w = word_most h' in
    let d = number_most n (omega arith) in
    let m = items_most h' r.right in
    omega arith

-- of all parts
most_bytes : List Section → ℕ
most_bytes [] = 0
most_bytes (s ∷ G) = 13 + s.most * 77 + most_bytes G

writing_most : {G : List Section} {X : List Part} → InGrammar G X → All (λ (s : Section). s.most ≤ 65535) G → length (writing X) ≤ most_bytes G
unfolding writing lines_of joined most_bytes
writing_most no_part a = omega arith
writing_most (one-part {p = p} {X = X} r g) (more h a) =
    let e = ap length (joined_append (part_lines p.heading p.items) (lines_of X)) ∙ length-append (joined (part_lines p.heading p.items)) (joined (lines_of X)) in
    let first = part_most r h in
    let rest = writing_most g a in
    omega arith

pub book_small : (b : Book) → InGrammar book_grammar (book_parts b) → length (writing (book_parts b)) ≤ file_limit
unfolding most_bytes
book_small b g = let m = writing_most g (more (omega arith) (more (omega arith) (more (omega arith) none))) in omega arith
