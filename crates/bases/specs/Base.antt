-- Document 01, "Shapes and fillings", and document 02, order 10: a base is a set of characters, lent as 64-bit numbers:
-- bit k of the first for code k, of the next for code 64 + k, and so on.
use Rattle.std.specs.Prelude.{◌≡◌, List, [], ◌∷◌, ℕ, zero, suc, ◌+◌, ◌-◌, ◌*◌, ◌/◌, ◌%◌, ◌^◌, ◌≤◌, ◌<◌}
use Rattle.std.specs.Int.Count.{count_trailing_zeros, count_leading_zeros}

-- the base that some words, the lowest codes first, stand for: one number with a bit for each code
unfoldable pub base_of : List ℕ → ℕ
base_of [] = 0
base_of (w ∷ ws) = base_of ws * 2 ^ 64 + w

-- the base b holds the character c
unfoldable pub Holds : ℕ → ℕ → Type 0
Holds b c = b / 2 ^ c % 2 ≡ 1

-- the base b is empty: it holds no character
unfoldable pub Empty : ℕ → Type 0
Empty b = (c : ℕ) → Holds b c → ⊥

-- two bases share a character
pub record Meets (a b : ℕ) : Type 0 where
  pub shared : ℕ
  pub first : Holds a shared
  pub second : Holds b shared

-- c is the least character of b
pub record Least (b c : ℕ) : Type 0 where
  pub held : Holds b c
  pub least : (d : ℕ) → Holds b d → c ≤ d

-- c is the greatest character of b
pub record Greatest (b c : ℕ) : Type 0 where
  pub held : Holds b c
  pub greatest : (d : ℕ) → Holds b d → d ≤ c

-- a base is lent as so many words: characters have codes below this
abbrev pub base_words : ℕ
base_words = 4

abbrev pub codes : ℕ
codes = base_words * 64

-- lent words are 64-bit numbers
abbrev pub Word : ℕ → Type 0
Word w = w < 2 ^ 64

-- a base as so many words; the last has what the others leave
unfoldable pub words_in : ℕ → ℕ → List ℕ
words_in zero b = []
words_in (suc zero) b = b ∷ []
words_in (suc (suc n)) b = b % 2 ^ 64 ∷ words_in (suc n) (b / 2 ^ 64)

-- the least and the greatest character, as numbers: by the zeros below the lowest set bit and above the highest
unfoldable pub least_of : ℕ → ℕ
least_of b = count_trailing_zeros codes b

unfoldable pub greatest_of : ℕ → ℕ
greatest_of b = codes - 1 - count_leading_zeros codes b
