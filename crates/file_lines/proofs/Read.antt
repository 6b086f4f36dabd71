-- Lines taken apart: the numbers of a line are those of its parts. Assumes nothing.
use mathlib.Core.Path.{◌≡◌, refl, sym, ap, ◌∙◌, subst}
use mathlib.Core.List.{List, ◌∷◌, ◌++◌}
use Prim.Native.Nat.{ℕ, ◌+◌, ◌-◌, ◌*◌, ◌/◌, ◌%◌, ◌^◌, ◌≤◌, ◌<◌}
use native.Mathlib.Nat.{div-add-mod', mod-lt, mod-eq_of_lt, lt_of_lt_of_le, one-le-pow}
use native.Mathlib.Numerals.{add-one}
use native.Mathlib.Omega.{arith}
use lib.Arith.{digits_lt}
use lib.Dec.{lit<}
use lib.ListN.{length, get_or, take, drop, length-append, length-drop, take-append-drop}
use lib.Pow.{pow-add, pow_mono}
use lib.Seq.{take_all, take_at, drop_at, get_or_at, take-add, drop-drop, split_at}
use Rattle.bases.specs.Base.{base_words, codes}
use Rattle.rules.specs.declared.Rule.{Rule}
use Rattle.rules.specs.Rule.{rule_with}
use Rattle.shapes.specs.Shape.{Block}
use Rattle.plain.proofs.All.{all_map}
use Rattle.file_numerals.specs.Digits.{digits, decimal}
use Rattle.file_numerals.specs.Read.{word_digits}
use Rattle.file_numerals.proofs.Digits.{decimal_digits, digits_length, digits_split}
use Rattle.file_lines.specs.declared.Width.{Width}
use Rattle.file_lines.specs.declared.Width.TheVariants.{Low, Wide}
use Rattle.file_lines.specs.Grammar.{said_words, base_digits, head_line, two_numbers, block_line, rule_line}
use Rattle.file_lines.specs.Lines.{Without, NumberFirst}
use Rattle.file_lines.proofs.Split.{parted}

-- the rest of a list, as a part of it
abbrev pub rest_from : ℕ → List ℕ → List ℕ
rest_from j t = take (length t - j) (drop j t)

pub rest_of : (t : List ℕ) (j : ℕ) → rest_from j t ≡ drop j t
rest_of t j = take_all (length t - j) (drop j t) (let e = length-drop j t in omega arith)

-- no blank and no newline is among the digits
pub without_decimal : (b n : ℕ) → b < 48 → Without b (decimal n)
without_decimal b n h = all_map (λ c d e. let low = d.0 in omega arith) (decimal_digits n)

-- ---- a decimal, a blank, and something else

module _ (t : List ℕ) (n m : ℕ) (f : NumberFirst t n m) where
  pub number_rest : (a : ℕ) (y : List ℕ) → t ≡ decimal a ++ 32 ∷ y → rest_from m t ≡ y
  number_rest a y e =
      rest_of t m ∙ (parted 32 (decimal n) (decimal a) (drop m t) y (without_decimal 32 n (omega arith)) (without_decimal 32 a (omega arith)) (sym f.split ∙ e)).1

  pub number_is : (y : List ℕ) → rest_from m t ≡ y → t ≡ decimal n ++ 32 ∷ y
  number_is y e = f.split ∙ ap (λ (u : List ℕ). decimal n ++ 32 ∷ u) (sym (rest_of t m) ∙ e)

-- a rule: two numbers with a blank after each, then two more
module _ (t : List ℕ) (n m a k : ℕ) (f : NumberFirst t n m) (s : NumberFirst (rest_from m t) a k) where
  rest_rest : rest_from (m + k) t ≡ rest_from k (rest_from m t)
  rest_rest = rest_of t (m + k) ∙ sym (drop-drop k m t) ∙ ap (drop k) (sym (rest_of t m)) ∙ sym (rest_of (rest_from m t) k)

  pub rule_within : m + k ≤ length t
  rule_within = let h = f.within in let g = s.within in let l = ap length (rest_of t m) ∙ length-drop m t in omega arith

  pub rule_rest : (r : Rule) → t ≡ rule_line r → rest_from (m + k) t ≡ two_numbers r.b r.c
  unfolding rule_line
  rule_rest r e = rest_rest ∙ number_rest (rest_from m t) a k s r.a _ (number_rest t n m f r.kind _ e)

  pub rule_is : (b c : ℕ) → rest_from (m + k) t ≡ two_numbers b c → t ≡ rule_line (rule_with n a b c)
  unfolding rule_line
  rule_is b c e = number_is t n m f _ (number_is (rest_from m t) a k s _ (sym rest_rest ∙ e))

-- ---- a word and a decimal

pub head_is : (t word : List ℕ) (n : ℕ) → take (length word) t ≡ word → drop (length word) t ≡ decimal n → t ≡ head_line word n
unfolding head_line
head_is t word n e g = sym (take-append-drop (length word) t) ∙ (λ m. e m ++ g m)

pub head_front : (t word : List ℕ) (n : ℕ) → t ≡ head_line word n → take (length word) t ≡ word
unfolding head_line
head_front t word n e = ap (take (length word)) e ∙ take_at word (decimal n) (length word) refl

pub head_rest : (t word : List ℕ) (n : ℕ) → t ≡ head_line word n → drop (length word) t ≡ decimal n
unfolding head_line
head_rest t word n e = ap (drop (length word)) e ∙ drop_at word (decimal n) (length word) refl

-- ---- a base

-- digits cut in two
digits_cut : (j k x : ℕ) → digits 16 (j + k) x ≡ digits 16 j (x / 16 ^ k) ++ digits 16 k (x % 16 ^ k)
digits_cut j k x =
    ap (digits 16 (j + k)) (sym (div-add-mod' x (16 ^ k))) ∙ digits_split 16 j k (x / 16 ^ k) (x % 16 ^ k) (lit< tt) (mod-lt x (some_power k))
  where
    some_power : (k : ℕ) → 0 < 16 ^ k
    some_power k = one-le-pow k 16 (lit< tt)

-- a part of a base's digits are digits
pub digits_part : (t : List ℕ) (j k r x : ℕ) → t ≡ digits 16 (j + (k + r)) x → take k (drop j t) ≡ digits 16 k (x % 16 ^ (k + r) / 16 ^ r)
digits_part t j k r x e =
    let y = x % 16 ^ (k + r) in
    ap (λ (l : List ℕ). take k (drop j l)) (e ∙ digits_cut j (k + r) x)
    ∙ ap (take k) (drop_at (digits 16 j (x / 16 ^ (k + r))) (digits 16 (k + r) y) j (digits_length 16 j _) ∙ digits_cut k r y)
    ∙ take_at (digits 16 k (y / 16 ^ r)) (digits 16 r (y % 16 ^ r)) k (digits_length 16 k _)

-- one word more
pub base_more : (t : List ℕ) (i b w : ℕ) {x : ℕ} → i < base_words → b < 2 ^ (i * 64) → w < 2 ^ 64 → x ≡ (b * 2 ^ 64 + w) % 2 ^ 256
    → take (i * word_digits) t ≡ digits 16 (i * word_digits) b → take word_digits (drop (i * word_digits) t) ≡ digits 16 word_digits w
    → (x < 2 ^ ((i + 1) * 64)) × (take ((i + 1) * word_digits) t ≡ digits 16 ((i + 1) * word_digits) x)
base_more t i b w {x} few small word e first next = (
  subst (λ (n : ℕ). n < 2 ^ ((i + 1) * 64)) (sym same) below,
  ap (λ (n : ℕ). take n t) long ∙ take-add (i * word_digits) word_digits t ∙ (λ m. first m ++ next m) ∙ sym (digits_split 16 (i * word_digits) word_digits b w (lit< tt) word)
      ∙ (λ m. digits 16 (sym long m) (sym same m)),
)
  where
    long : (i + 1) * word_digits ≡ i * word_digits + word_digits
    long = omega arith

    below : b * 2 ^ 64 + w < 2 ^ ((i + 1) * 64)
    below = subst (λ (k : ℕ). b * 2 ^ 64 + w < 2 ^ k) (let z : i * 64 + 64 ≡ (i + 1) * 64 = omega arith in z) (rw (pow-add 2 (i * 64) 64) (digits_lt small word))

    same : x ≡ b * 2 ^ 64 + w
    same = e ∙ mod-eq_of_lt (lt_of_lt_of_le below (pow_mono (let z : (i + 1) * 64 ≤ 256 = omega arith in z)))

-- a line says at most all words of a base
pub said_few : (w : Width) → said_words w ≤ base_words
said_few Low = omega arith
said_few Wide = omega arith

pub said_small : (w : Width) {n : ℕ} → n < 2 ^ (said_words w * 64) → n < 2 ^ codes
said_small w h = lt_of_lt_of_le h (pow_mono (let f = said_few w in let z : said_words w * 64 ≤ codes = omega arith in z))

-- ---- a block, whose base is said by d digits

module _ (w : Width) {d : ℕ} (many : d ≡ base_digits w) (t : List ℕ) (b : Block) (e : t ≡ block_line w b) where
  said : List ℕ
  said = digits 16 d b.base

  ends : List ℕ
  ends = 32 ∷ two_numbers b.lower b.upper

  line : t ≡ said ++ ends
  unfolding block_line said ends
  line = e ∙ ap (λ (k : ℕ). digits 16 k b.base ++ ends) (sym many)

  front : length said ≡ d
  unfolding said
  front = digits_length 16 d b.base

  pub block_long : d < length t
  unfolding ends
  block_long = let l = front in let f = ap length line ∙ length-append said ends in omega arith

  pub block_blank : get_or t d 0 ≡ 32
  unfolding ends
  block_blank = ap (λ (s : List ℕ). get_or s d 0) line ∙ get_or_at said 32 (two_numbers b.lower b.upper) 0 d front

  pub block_front : take d t ≡ digits 16 d b.base
  unfolding said
  block_front = ap (take d) line ∙ take_at said ends d front

  pub block_rest : drop (d + 1) t ≡ two_numbers b.lower b.upper
  unfolding ends
  block_rest = sym (drop-drop 1 d t) ∙ ap (drop 1) (ap (drop d) line ∙ drop_at said ends d front)

pub block_is : (w : Width) {d : ℕ} → d ≡ base_digits w → (t : List ℕ) (x a b : ℕ) → d < length t → get_or t d 0 ≡ 32
    → take d t ≡ digits 16 d x → drop (d + 1) t ≡ two_numbers a b → t ≡ block_line w (record { base = x; lower = a; upper = b })
unfolding block_line
block_is w {d} many t x a b long blank base two =
    split_at t d 0 long ∙ (λ m. base m ++ blank m ∷ (ap (λ (n : ℕ). drop n t) (sym (add-one d)) ∙ two) m)
    ∙ ap (λ (k : ℕ). digits 16 k x ++ 32 ∷ two_numbers a b) many
