-- What reading digits and numbers finds. Assumes nothing.
use mathlib.Core.Path.{◌≡◌, sym, ap, ◌∙◌, subst}
use mathlib.Core.Logic.{⊎_elim}
use mathlib.Core.List.{List, [], ◌∷◌, ◌++◌}
use Prim.Native.Nat.{ℕ, zero, suc, ◌+◌, ◌-◌, ◌*◌, ◌^◌, ◌≤◌, ◌<◌}
use native.Mathlib.Omega.{arith}
use native.Mathlib.Numerals.{add-one}
use lib.ListN.{length, get_or, take, drop}
use Rattle.std.specs.Prelude.{Some, None}
use lib.Pow.{pow-add, pow_mono}
use lib.Seq.{take-suc, take_all, get_or-take, get_or-drop}
use Rattle.plain.proofs.Plain.{lt_or_le}
use Rattle.plain.proofs.All.{all_at}
use Rattle.file_numerals.specs.Digits.{glyph, digits, decimal}
use Rattle.file_numerals.specs.Read.{DigitRead}
use Rattle.file_numerals.proofs.Digits.{glyph_low, glyph_high, glyph_one, decimal_digit, decimal_more, decimal_some, decimal_few, decimal_below, decimal_digits, decimal_first, decimal_one, digits_more, digits_glyphs}

-- ---- a digit

-- what is neither of `0` to `9` nor of `a` to `f` is no digit, in a base up to 16
pub no_digit : (b c : ℕ) → b ≤ 16 → ((48 ≤ c) × (c ≤ 57) → ⊥) → ((97 ≤ c) × (c ≤ 102) → ⊥) → DigitRead b c None
no_digit b c m h k =
    λ d g e. ⊎_elim (λ s. h (let f = glyph_low d s in (omega arith, omega arith))) (λ s. k (let f = glyph_high d s in (omega arith, omega arith))) (lt_or_le d 10)

pub low_digit : (c : ℕ) → 48 ≤ c → c ≤ 57 → c ≡ glyph (c - 48)
low_digit c h g = sym (glyph_low (c - 48) (omega arith) ∙ (let e : 48 + (c - 48) ≡ c = omega arith in e))

pub high_digit : (c : ℕ) → 97 ≤ c → c ≤ 102 → c ≡ glyph (c - 97 + 10)
high_digit c h g = sym (glyph_high (c - 97 + 10) (omega arith) ∙ (let e : 87 + (c - 97 + 10) ≡ c = omega arith in e))

-- c is the digit d, which is not below the base
pub above_base : (b c d : ℕ) → b ≤ 16 → d < 16 → b ≤ d → c ≡ glyph d → DigitRead b c None
above_base b c d m h g e = λ f k p. let same = glyph_one d f h (omega arith) (sym e ∙ p) in omega arith

-- ---- a decimal, digit by digit

one_more_taken : (t : List ℕ) (i : ℕ) → i < length t → take (i + 1) t ≡ take i t ++ (get_or t i 0 ∷ [])
one_more_taken t i h = ap (λ (k : ℕ). take k t) (add-one i) ∙ take-suc t i 0 h

-- what stands in the rest of a list
pub rest_at : (t : List ℕ) (i : ℕ) → i < length t - 1 → get_or (take (length t - 1) (drop 1 t)) i 0 ≡ get_or t (i + 1) 0
rest_at t i h = get_or-take (length t - 1) (drop 1 t) i 0 h ∙ get_or-drop 1 t i 0 ∙ ap (λ (k : ℕ). get_or t k 0) (let e : 1 + i ≡ i + 1 = omega arith in e)

-- the first digit alone
pub first_digit : (t : List ℕ) (d : ℕ) → 0 < length t → DigitRead 10 (get_or t 0 0) (Some d) → take 1 t ≡ decimal d
first_digit t d h r = one_more_taken t 0 h ∙ ap (λ (c : ℕ). c ∷ []) (r.1 ∙ glyph_low d r.0) ∙ sym (decimal_digit d r.0)

-- one digit more
pub next_digit : (t : List ℕ) (i v d : ℕ) → i < length t → DigitRead 10 (get_or t i 0) (Some d) → 0 < v → take i t ≡ decimal v → take (i + 1) t ≡ decimal (v * 10 + d)
next_digit t i v d h r p e =
    one_more_taken t i h ∙ ap (λ (s : List ℕ). s ++ (get_or t i 0 ∷ [])) e ∙ ap (λ (c : ℕ). decimal v ++ (c ∷ [])) (r.1 ∙ glyph_low d r.0) ∙ sym (decimal_more v d p r.0)

-- no decimal has another character than digits
pub no_other : (t : List ℕ) (i n : ℕ) → i < length t → DigitRead 10 (get_or t i 0) None → t ≡ decimal n → ⊥
no_other t i n h r e =
    let there : i < length (decimal n) = subst (λ (s : List ℕ). i < length s) e h in
    let same : get_or t i 0 ≡ get_or (decimal n) i 0 = ap (λ (s : List ℕ). get_or s i 0) e in
    let c = all_at 0 (decimal_digits n) i there in
    let low = c.0 in
    let high = c.1 in
    r (get_or t i 0 - 48) (omega arith) (sym (glyph_low (get_or t i 0 - 48) (omega arith) ∙ (let f : 48 + (get_or t i 0 - 48) ≡ get_or t i 0 = omega arith in f)))

-- no decimal is empty, up to 65,535 none has over 5 digits, and none has a needless zero
pub none_empty : (t : List ℕ) (n : ℕ) → length t ≡ 0 → t ≡ decimal n → ⊥
none_empty t n h e = let s = decimal_some n in let f = ap length e in omega arith

pub none_long : (t : List ℕ) (n : ℕ) → 5 < length t → n ≤ 65535 → t ≡ decimal n → ⊥
none_long t n h g e = let s = decimal_few n 5 (omega arith) (omega arith) in let f = ap length e in omega arith

pub none_padded : (t : List ℕ) (d n : ℕ) → 1 < length t → DigitRead 10 (get_or t 0 0) (Some d) → d ≡ 0 → t ≡ decimal n → ⊥
none_padded t d n h r z e =
    let zero_first : get_or t 0 0 ≡ 48 = r.1 ∙ ap glyph z ∙ glyph_low 0 (omega arith) in
    ⊎_elim
    (λ s. let one : n ≡ 0 = omega arith in let f : length t ≡ 1 = ap length (e ∙ ap decimal one ∙ decimal_digit 0 (omega arith)) in omega arith)
    (λ s. decimal_first n s (ap (λ (x : List ℕ). get_or x 0 0) (sym e) ∙ zero_first))
    (lt_or_le n 1)

-- a decimal is below 10 to the count of its digits
pub below_places : (v i : ℕ) (t : List ℕ) → t ≡ decimal v → length t ≡ i → i ≤ 4 → v < 10000
below_places v i t e l h = up i (subst (λ (k : ℕ). v < 10 ^ k) (sym (ap length e) ∙ l) (decimal_below v)) h
  where
    up : (i : ℕ) → v < 10 ^ i → i ≤ 4 → v < 10000
    up zero h l = omega arith
    up (suc zero) h l = omega arith
    up (suc (suc zero)) h l = omega arith
    up (suc (suc (suc zero))) h l = omega arith
    up (suc (suc (suc (suc zero)))) h l = h
    up (suc (suc (suc (suc (suc i))))) h l = absurd (omega arith)

-- the whole read
pub whole_read : (t : List ℕ) (i v : ℕ) → length t ≤ i → take i t ≡ decimal v → t ≡ decimal v
whole_read t i v h e = sym (take_all i t h) ∙ e

pub none_above : (t : List ℕ) (i v n : ℕ) → length t ≤ i → take i t ≡ decimal v → 65535 < v → n ≤ 65535 → t ≡ decimal n → ⊥
none_above t i v n h e g l f = let same = decimal_one v n (sym (whole_read t i v h e) ∙ f) in omega arith

-- ---- hex digits

pub next_hex : (t : List ℕ) (i v d : ℕ) → i < length t → DigitRead 16 (get_or t i 0) (Some d) → take i t ≡ digits 16 i v → take (i + 1) t ≡ digits 16 (i + 1) (v * 16 + d)
next_hex t i v d h r e =
    one_more_taken t i h ∙ ap (λ (s : List ℕ). s ++ (get_or t i 0 ∷ [])) e ∙ ap (λ (c : ℕ). digits 16 i v ++ (c ∷ [])) r.1
    ∙ sym (ap (λ (k : ℕ). digits 16 k (v * 16 + d)) (add-one i) ∙ digits_more 16 i v d r.0)

pub no_other_hex : (t : List ℕ) (i n : ℕ) → i < length t → DigitRead 16 (get_or t i 0) None → t ≡ digits 16 16 n → ⊥
no_other_hex t i n h r e =
    let there : i < length (digits 16 16 n) = subst (λ (s : List ℕ). i < length s) e h in
    let c = all_at 0 (digits_glyphs 16 16 n (omega arith)) i there in
    r c.0 c.1 (ap (λ (s : List ℕ). get_or s i 0) e ∙ c.2)

-- v of at most 15 hex digits, and one digit more
pub hex_fits : (v i d : ℕ) → v < 2 ^ (4 * i) → i < 16 → d < 16 → (v * 16 + d < 2 ^ (4 * (i + 1))) × (v * 16 + d < 2 ^ 64)
hex_fits v i d h g l =
    let up : 2 ^ (4 * (i + 1)) ≡ 2 ^ (4 * i) * 16 = ap (λ (k : ℕ). 2 ^ k) (let e : 4 * (i + 1) ≡ 4 * i + 4 = omega arith in e) ∙ pow-add 2 (4 * i) 4 in
    let most : 2 ^ (4 * (i + 1)) ≤ 2 ^ 64 = pow_mono {i = 4 * (i + 1)} {j = 64} (omega arith) in
    (omega arith, omega arith)
