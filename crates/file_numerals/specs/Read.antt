-- What the functions that read numbers answer.
use Rattle.std.specs.Prelude.{◌≡◌, List, ℕ, ◌^◌, ◌≤◌, ◌<◌, Option, Some, None}
use Rattle.file_numerals.specs.Digits.{glyph, digits, decimal}

-- c is a digit below b
abbrev pub DigitRead : ℕ → ℕ → Option ℕ → Type 0
DigitRead b c (Some d) = (d < b) × (c ≡ glyph d)
DigitRead b c None = (d : ℕ) → d < b → c ≡ glyph d → ⊥

-- t is a decimal up to 65,535
abbrev pub DecimalRead : List ℕ → Option ℕ → Type 0
DecimalRead t (Some n) = (n ≤ 65535) × (t ≡ decimal n)
DecimalRead t None = (n : ℕ) → n ≤ 65535 → t ≡ decimal n → ⊥

-- t is a word of a base: 16 hex digits
abbrev pub word_digits : ℕ
word_digits = 16

abbrev pub WordRead : List ℕ → Option ℕ → Type 0
WordRead t (Some n) = (n < 2 ^ 64) × (t ≡ digits 16 word_digits n)
WordRead t None = (n : ℕ) → t ≡ digits 16 word_digits n → ⊥
