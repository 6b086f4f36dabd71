-- What holds of every heading: the head line tells the heading's count, an item's line tells the item, and no line has
-- a newline. Assumes nothing.
use mathlib.Core.Path.{◌≡◌, refl, sym, ap, ◌∙◌}
use mathlib.Core.Bool.{cond}
use mathlib.Core.Logic.{⊎_elim}
use mathlib.Core.List.{List, [], ◌∷◌, ◌++◌}
use Prim.Native.Nat.{ℕ, ◌*◌, ◌^◌, ◌≤◌, ◌<◌}
use native.Mathlib.Omega.{arith}
use lib.Dec.{lit<, eqb}
use lib.ListN.{length, get_or, drop}
use lib.Pow.{pow_pos}
use lib.Seq.{drop_at}
use Rattle.plain.proofs.Plain.{lt_or_le}
use Rattle.plain.specs.All.All.{none, more}
use Rattle.plain.proofs.All.{all_append, all_map}
use Rattle.rules.specs.declared.Rule.{Rule}
use Rattle.rules.specs.Rule.{rule_with}
use Rattle.shapes.specs.Shape.{Block, no_block}
use Rattle.shapes.proofs.Numbers.{numbers_count}
use Rattle.file_numerals.specs.Digits.{glyph, decimal}
use Rattle.file_numerals.proofs.Digits.{glyph_low, glyph_high, digits_glyphs, digits_one, decimal_one}
use Rattle.file_lines.specs.declared.Heading.{Heading}
use Rattle.file_lines.specs.declared.Heading.TheVariants.{Texts, Blocks, Rules}
use Rattle.file_lines.specs.declared.Width.{Width}
use Rattle.file_lines.specs.declared.Width.TheVariants.{Low, Wide}
use Rattle.file_lines.specs.Grammar.{said_words, base_digits, RightBlock, head_line, two_numbers, block_line, rule_line, word_of, Item, RightItem, line_of, size_of, numbers_of}
use Rattle.file_lines.specs.Lines.{Without}
use Rattle.file_lines.proofs.Split.{parted}
use Rattle.file_lines.proofs.Read.{without_decimal, block_front, block_rest}

-- ---- no newline

without_two : (a b : ℕ) → Without 10 (two_numbers a b)
unfolding two_numbers
without_two a b = all_append (without_decimal 10 a (omega arith)) (more (λ e. omega arith) (without_decimal 10 b (omega arith)))

-- a digit's code is at least 48
pub glyph_least : (d : ℕ) → 48 ≤ glyph d
glyph_least d = ⊎_elim (λ h. let e = glyph_low d h in omega arith) (λ h. let e = glyph_high d h in omega arith) (lt_or_le d 10)

without_rule : (r : Rule) → Without 10 (rule_line r)
unfolding rule_line
without_rule r =
    all_append (without_decimal 10 r.kind (omega arith))
    (more (λ e. omega arith) (all_append (without_decimal 10 r.a (omega arith)) (more (λ e. omega arith) (without_two r.b r.c))))

without_block : (w : Width) (b : Block) → Without 10 (block_line w b)
unfolding block_line
without_block w b =
    all_append (all_map (λ c g e. let l = glyph_least g.0 in let f = g.2 in omega arith) (digits_glyphs 16 (base_digits w) b.base (omega arith)))
    (more (λ e. omega arith) (without_two b.lower b.upper))

pub without_item : (h : Heading) (x : Item h) → Without 10 (line_of h x)
without_item Texts n = without_decimal 10 n (omega arith)
without_item (Blocks w) b = without_block w b
without_item Rules r = without_rule r

other : (c : ℕ) → 10 < c → c ≡ 10 → ⊥
other c h e = omega arith

without_word : (h : Heading) → Without 10 (word_of h)
without_word Texts = more (other 84 (lit< tt)) (more (other 69 (lit< tt)) (more (other 88 (lit< tt)) (more (other 84 (lit< tt)) (more (other 83 (lit< tt)) (more (other 32 (lit< tt)) none)))))
without_word (Blocks Low) = more (other 66 (lit< tt)) (more (other 76 (lit< tt)) (more (other 79 (lit< tt)) (more (other 67 (lit< tt)) (more (other 75 (lit< tt)) (more (other 83 (lit< tt)) (more (other 32 (lit< tt)) none))))))
without_word (Blocks Wide) = more (other 87 (lit< tt)) (more (other 73 (lit< tt)) (more (other 68 (lit< tt)) (more (other 69 (lit< tt)) (more (other 32 (lit< tt)) none))))
without_word Rules = more (other 82 (lit< tt)) (more (other 85 (lit< tt)) (more (other 76 (lit< tt)) (more (other 69 (lit< tt)) (more (other 83 (lit< tt)) (more (other 32 (lit< tt)) none)))))

pub without_head : (h : Heading) (n : ℕ) → Without 10 (head_line (word_of h) n)
unfolding head_line
without_head h n = all_append (without_word h) (without_decimal 10 n (omega arith))

-- ---- a line has one reading

-- the first letter of a word tells the heading
abbrev pub heading_letter : Heading → ℕ
heading_letter Texts = 84
heading_letter (Blocks Low) = 66
heading_letter (Blocks Wide) = 87
heading_letter Rules = 82

with_letter : ℕ → Heading
with_letter c = cond (eqb c 84) Texts (cond (eqb c 66) (Blocks Low) (cond (eqb c 87) (Blocks Wide) Rules))

letter_back : (h : Heading) → with_letter (heading_letter h) ≡ h
unfolding with_letter
letter_back Texts = refl
letter_back (Blocks Low) = refl
letter_back (Blocks Wide) = refl
letter_back Rules = refl

pub first_letter : (h : Heading) (n : ℕ) (after : List ℕ) → get_or (head_line (word_of h) n ++ after) 0 0 ≡ heading_letter h
unfolding head_line
first_letter Texts n after = refl
first_letter (Blocks Low) n after = refl
first_letter (Blocks Wide) n after = refl
first_letter Rules n after = refl

pub heading_one : (h k : Heading) (n m : ℕ) → head_line (word_of h) n ≡ head_line (word_of k) m → h ≡ k
heading_one h k n m e =
    sym (letter_back h) ∙ ap with_letter (sym (first_letter h n []) ∙ ap (λ (l : List ℕ). get_or (l ++ []) 0 0) e ∙ first_letter k m []) ∙ letter_back k

pub count_one : (h : Heading) (n m : ℕ) → head_line (word_of h) n ≡ head_line (word_of h) m → n ≡ m
unfolding head_line
count_one h n m e =
    decimal_one n m (sym (drop_at (word_of h) (decimal n) (length (word_of h)) refl) ∙ ap (drop (length (word_of h))) e ∙ drop_at (word_of h) (decimal m) (length (word_of h)) refl)

number_one : (a b : ℕ) (s t : List ℕ) → decimal a ++ 32 ∷ s ≡ decimal b ++ 32 ∷ t → (a ≡ b) × (s ≡ t)
number_one a b s t e =
    let p = parted 32 (decimal a) (decimal b) s t (without_decimal 32 a (omega arith)) (without_decimal 32 b (omega arith)) e in
    (decimal_one a b p.0, p.1)

two_one : (a b c d : ℕ) → two_numbers a b ≡ two_numbers c d → (a ≡ c) × (b ≡ d)
unfolding two_numbers
two_one a b c d e = let p = number_one a c (decimal b) (decimal d) e in (p.0, decimal_one b d p.1)

rule_one : (r s : Rule) → rule_line r ≡ rule_line s → r ≡ s
unfolding rule_line
rule_one r s e =
    let k = number_one r.kind s.kind _ _ e in
    let a = number_one r.a s.a _ _ k.1 in
    let t = two_one r.b r.c s.b s.c a.1 in
    λ i. record { kind = k.0 i; a = a.0 i; b = t.0 i; c = t.1 i }

block_one : (w : Width) (b c : Block) → RightBlock w b → RightBlock w c → block_line w b ≡ block_line w c → b ≡ c
block_one w b c h g e =
    let front = sym (block_front w refl _ b refl) ∙ block_front w refl _ c e in
    let base = digits_one (base_digits w) b.base c.base (sixteen w h.base) (sixteen w g.base) front in
    let t = two_one b.lower b.upper c.lower c.upper (sym (block_rest w refl _ b refl) ∙ block_rest w refl _ c e) in
    λ i. record { base = base i; lower = t.0 i; upper = t.1 i }
  where
    sixteen : (w : Width) {n : ℕ} → n < 2 ^ (said_words w * 64) → n < 16 ^ base_digits w
    sixteen Low h = h
    sixteen Wide h = h

pub item_one : (h : Heading) (x y : Item h) → RightItem h x → RightItem h y → line_of h x ≡ line_of h y → x ≡ y
item_one Texts x y p q e = decimal_one x y e
item_one (Blocks w) x y p q e = block_one w x y p q e
item_one Rules x y p q e = rule_one x y e

-- ---- an item's numbers, and one that is right

pub item_size : (h : Heading) (x : Item h) → length (numbers_of h x) ≡ size_of h
item_size Texts x = refl
item_size (Blocks w) x = numbers_count x
item_size Rules x = refl

pub item_some : (h : Heading) → 0 < size_of h
item_some Texts = omega arith
item_some (Blocks w) = omega arith
item_some Rules = omega arith

small_zero : 0 ≤ 65535
small_zero = omega arith

pub some_item : (h : Heading) → Item h
some_item Texts = 0
some_item (Blocks w) = no_block
some_item Rules = rule_with 0 0 0 0

pub some_right : (h : Heading) → RightItem h (some_item h)
unfolding some_item
some_right Texts = small_zero
some_right (Blocks w) = record { base = pow_pos (said_words w * 64); lower = small_zero; upper = small_zero }
some_right Rules = record { kind = small_zero; a = small_zero; b = small_zero; c = small_zero }
