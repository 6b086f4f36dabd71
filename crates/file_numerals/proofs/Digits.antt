-- The laws of numbers as text. Assumes nothing.
use mathlib.Core.Path.{◌≡◌, refl, sym, ap, ◌∙◌, subst}
use mathlib.Core.Bool.{Bool, cond}
use mathlib.Core.Logic.{⊎_elim}
use mathlib.Core.List.{List, [], ◌∷◌, ◌++◌, append-nil, append_assoc}
use Prim.Native.Nat.{ℕ, zero, suc, ◌+◌, ◌-◌, ◌*◌, ◌/◌, ◌%◌, ◌^◌, ◌≤◌, ◌<◌}
use native.Mathlib.Omega.{arith}
use native.Mathlib.Nat.{div-add-mod', mod-lt, pow-suc, pow-succ', pow-zero, add-zero, add-suc, div-one, div-div-eq-div-mul, div-lt_iff_lt-mul}
use native.Mathlib.Numerals.{add-one}
use lib.Arith.{digits_div, digits_mod}
use lib.ListN.{length, get_or, take, length-append, get_or-append}
use lib.Seq.{take_at, get_or_at}
use borrow.Author.Tests.{lt-ltb, le-ltb}
use Rattle.plain.proofs.Plain.{lt_or_le}
use Rattle.plain.specs.All.{All}
use Rattle.plain.specs.All.All.{none, more}
use Rattle.plain.proofs.All.{all_append}
use Rattle.file_numerals.specs.Digits.{glyph, digits, decimal_by, decimal}

-- ---- the digits

pub glyph_low : (d : ℕ) → d < 10 → glyph d ≡ 48 + d
unfolding glyph
glyph_low d h = ap (λ b. cond b (48 + d) (87 + d)) (lt-ltb d 10 h)

pub glyph_high : (d : ℕ) → 10 ≤ d → glyph d ≡ 87 + d
unfolding glyph
glyph_high d h = ap (λ b. cond b (48 + d) (87 + d)) (le-ltb d 10 h)

-- the digits below 16 differ
pub glyph_one : (d e : ℕ) → d < 16 → e < 16 → glyph d ≡ glyph e → d ≡ e
glyph_one d e h g p = ⊎_elim
    (λ a. ⊎_elim (λ b. let x = glyph_low d a in let y = glyph_low e b in omega arith) (λ b. let x = glyph_low d a in let y = glyph_high e b in omega arith) (lt_or_le e 10))
    (λ a. ⊎_elim (λ b. let x = glyph_high d a in let y = glyph_low e b in omega arith) (λ b. let x = glyph_high d a in let y = glyph_high e b in omega arith) (lt_or_le e 10))
    (lt_or_le d 10)

-- ---- a decimal is one digit, or a decimal above 0 and a digit

by_one : (k n : ℕ) → n < 10 → decimal_by (suc k) n ≡ (48 + n) ∷ []
unfolding decimal_by
by_one k n h = ap (λ (b : Bool). cond b ((48 + n) ∷ []) (decimal_by k (n / 10) ++ ((48 + n % 10) ∷ []))) (lt-ltb n 10 h)

by_more : (k n : ℕ) → 10 ≤ n → decimal_by (suc k) n ≡ decimal_by k (n / 10) ++ ((48 + n % 10) ∷ [])
unfolding decimal_by
by_more k n h = ap (λ (b : Bool). cond b ((48 + n) ∷ []) (decimal_by k (n / 10) ++ ((48 + n % 10) ∷ []))) (le-ltb n 10 h)

-- more places change nothing
enough : (k j n : ℕ) → n < k → n < j → decimal_by k n ≡ decimal_by j n
enough zero j n h g = absurd (omega arith)
enough (suc k) zero n h g = absurd (omega arith)
enough (suc k) (suc j) n h g =
    ⊎_elim (λ s. by_one k n s ∙ sym (by_one j n s))
    (λ l. by_more k n l ∙ ap (λ (t : List ℕ). t ++ ((48 + n % 10) ∷ [])) (enough k j (n / 10) (omega arith) (omega arith)) ∙ sym (by_more j n l)) (lt_or_le n 10)

pub decimal_digit : (d : ℕ) → d < 10 → decimal d ≡ (48 + d) ∷ []
unfolding decimal
decimal_digit d h = by_one d d h

pub decimal_more : (n d : ℕ) → 0 < n → d < 10 → decimal (n * 10 + d) ≡ decimal n ++ ((48 + d) ∷ [])
unfolding decimal
decimal_more n d h g =
    by_more (n * 10 + d) (n * 10 + d) (omega arith)
    ∙ ap (λ (m : ℕ). decimal_by (n * 10 + d) m ++ ((48 + (n * 10 + d) % 10) ∷ [])) (let e : (n * 10 + d) / 10 ≡ n = omega arith in e)
    ∙ ap (λ (m : ℕ). decimal_by (n * 10 + d) n ++ ((48 + m) ∷ [])) (let e : (n * 10 + d) % 10 ≡ d = omega arith in e)
    ∙ ap (λ (t : List ℕ). t ++ ((48 + d) ∷ [])) (enough (n * 10 + d) (suc n) n (omega arith) (omega arith))

-- what holds of the digits, and goes on by a digit, holds of every number
pub by_digits : (P : ℕ → Type 0) → ((d : ℕ) → d < 10 → P d) → ((n d : ℕ) → 0 < n → d < 10 → P n → P (n * 10 + d)) → (n : ℕ) → P n
by_digits P one next n = go (suc n) n (omega arith)
  where
    go : (k n : ℕ) → n < k → P n
    go zero n h = absurd (omega arith)
    go (suc k) n h = ⊎_elim (one n) (λ l. subst P (let e : n / 10 * 10 + n % 10 ≡ n = omega arith in e) (next (n / 10) (n % 10) (omega arith) (omega arith) (go k (n / 10) (omega arith)))) (lt_or_le n 10)

-- ---- the laws of decimals

more_length : (n d : ℕ) → 0 < n → d < 10 → length (decimal (n * 10 + d)) ≡ length (decimal n) + 1
more_length n d h g = ap length (decimal_more n d h g) ∙ length-append (decimal n) ((48 + d) ∷ [])

-- a digit less
pub tenth_length : (n : ℕ) → 10 ≤ n → length (decimal n) ≡ length (decimal (n / 10)) + 1
tenth_length n h = ap (λ (m : ℕ). length (decimal m)) (let e : n ≡ n / 10 * 10 + n % 10 = omega arith in e) ∙ more_length (n / 10) (n % 10) (omega arith) (omega arith)

pub decimal_some : (n : ℕ) → 1 ≤ length (decimal n)
decimal_some = by_digits (λ (n : ℕ). 1 ≤ length (decimal n)) (λ d h. let e = ap length (decimal_digit d h) in omega arith) (λ n d h g p. let e = more_length n d h g in omega arith)

-- c is a decimal digit
abbrev pub Digit : ℕ → Type 0
Digit c = (48 ≤ c) × (c ≤ 57)

pub decimal_digits : (n : ℕ) → All Digit (decimal n)
decimal_digits = by_digits (λ (n : ℕ). All Digit (decimal n))
    (λ d h. subst (All Digit) (sym (decimal_digit d h)) (more (omega arith, omega arith) none))
    (λ n d h g p. subst (All Digit) (sym (decimal_more n d h g)) (all_append p (more (omega arith, omega arith) none)))

first_of_append : (s t : List ℕ) → 1 ≤ length s → get_or (s ++ t) 0 0 ≡ get_or s 0 0
first_of_append [] t h = absurd (omega arith)
first_of_append (a ∷ s) t h = refl

-- only 0 begins with a zero
pub decimal_first : (n : ℕ) → 0 < n → get_or (decimal n) 0 0 ≡ 48 → ⊥
decimal_first = by_digits (λ (n : ℕ). 0 < n → get_or (decimal n) 0 0 ≡ 48 → ⊥)
    (λ d h p e. let f : get_or (decimal d) 0 0 ≡ 48 + d = ap (λ (t : List ℕ). get_or t 0 0) (decimal_digit d h) in omega arith)
    (λ n d h g p q e.
    p h (sym (first_of_append (decimal n) ((48 + d) ∷ []) (decimal_some n)) ∙ ap (λ (t : List ℕ). get_or t 0 0) (sym (decimal_more n d h g)) ∙ e))

-- the value of some digits, after others of value v
value_from : ℕ → List ℕ → ℕ
value_from v [] = v
value_from v (c ∷ t) = value_from (v * 10 + (c - 48)) t

value_more : (v : ℕ) (t : List ℕ) (c : ℕ) → value_from v (t ++ (c ∷ [])) ≡ value_from v t * 10 + (c - 48)
unfolding value_from
value_more v [] c = refl
value_more v (a ∷ t) c = value_more (v * 10 + (a - 48)) t c

decimal_value : (n : ℕ) → value_from 0 (decimal n) ≡ n
unfolding value_from
decimal_value = by_digits (λ (n : ℕ). value_from 0 (decimal n) ≡ n)
    (λ d h. ap (value_from 0) (decimal_digit d h) ∙ (let e : 0 * 10 + (48 + d - 48) ≡ d = omega arith in e))
    (λ n d h g p. ap (value_from 0) (decimal_more n d h g) ∙ value_more 0 (decimal n) (48 + d)
    ∙ (let e : value_from 0 (decimal n) * 10 + (48 + d - 48) ≡ n * 10 + d = omega arith in e))

pub decimal_one : (n m : ℕ) → decimal n ≡ decimal m → n ≡ m
decimal_one n m e = sym (decimal_value n) ∙ ap (value_from 0) e ∙ decimal_value m

-- a number of k digits is below 10 to the k, and the other way round
pub decimal_below : (n : ℕ) → n < 10 ^ length (decimal n)
decimal_below = by_digits (λ (n : ℕ). n < 10 ^ length (decimal n))
    (λ d h. subst (λ (k : ℕ). d < 10 ^ k) (sym (ap length (decimal_digit d h))) h)
    (λ n d h g p. subst (λ (k : ℕ). n * 10 + d < 10 ^ k) (sym (more_length n d h g)) (next n d (length (decimal n)) g p))
  where
    next : (n d k : ℕ) → d < 10 → n < 10 ^ k → n * 10 + d < 10 ^ (k + 1)
    next n d k h p = let e : 10 ^ (k + 1) ≡ 10 ^ k * 10 = ap (λ (j : ℕ). 10 ^ j) (add-one k) ∙ pow-suc 10 k in omega arith

pub decimal_few : (n k : ℕ) → n < 10 ^ k → 1 ≤ k → length (decimal n) ≤ k
decimal_few = by_digits (λ (n : ℕ). (k : ℕ) → n < 10 ^ k → 1 ≤ k → length (decimal n) ≤ k)
    (λ d h k p l. let e = ap length (decimal_digit d h) in omega arith)
    (λ n d h g p k q l. let e = more_length n d h g in
    ⊎_elim
    (λ s. let one : k ≡ 1 = omega arith in let low : n * 10 + d < 10 = subst (λ (j : ℕ). n * 10 + d < 10 ^ j) one q in absurd (omega arith))
    (λ s. let up : 10 ^ k ≡ 10 ^ (k - 1) * 10 = ap (λ (j : ℕ). 10 ^ j) (let e : k ≡ suc (k - 1) = omega arith in e) ∙ pow-suc 10 (k - 1) in
    let r = p (k - 1) (omega arith) (omega arith) in omega arith)
    (lt_or_le k 2))

-- ---- the same digits as a fixed count of them

pub decimal_spelt : (n : ℕ) → decimal n ≡ digits 10 (length (decimal n)) n
unfolding digits
decimal_spelt = by_digits (λ (n : ℕ). decimal n ≡ digits 10 (length (decimal n)) n)
    (λ d h. decimal_digit d h ∙ sym (ap (λ (k : ℕ). digits 10 k d) (ap length (decimal_digit d h)) ∙ ap (λ (g : ℕ). g ∷ []) (ap glyph (let e : d % 10 ≡ d = omega arith in e) ∙ glyph_low d h)))
    (λ n d h g p.
    decimal_more n d h g ∙ ap (λ (t : List ℕ). t ++ ((48 + d) ∷ [])) p
    ∙ sym (ap (λ (k : ℕ). digits 10 k (n * 10 + d)) (more_length n d h g ∙ add-one (length (decimal n)))
    ∙ ap (λ (m : ℕ). digits 10 (length (decimal n)) m ++ (glyph ((n * 10 + d) % 10) ∷ [])) (let e : (n * 10 + d) / 10 ≡ n = omega arith in e)
    ∙ ap (λ (c : ℕ). digits 10 (length (decimal n)) n ++ (c ∷ [])) (ap glyph (let e : (n * 10 + d) % 10 ≡ d = omega arith in e) ∙ glyph_low d g)))

pub digits_length : (b k n : ℕ) → length (digits b k n) ≡ k
unfolding digits
digits_length b zero n = refl
digits_length b (suc k) n = length-append (digits b k (n / b)) (glyph (n % b) ∷ []) ∙ (let e = digits_length b k (n / b) in let f : length (digits b k (n / b)) + 1 ≡ suc k = omega arith in f)

-- a digit more
pub digits_more : (b k n d : ℕ) → d < b → digits b (suc k) (n * b + d) ≡ digits b k n ++ (glyph d ∷ [])
unfolding digits
digits_more b k n d h =
    ap (λ (m : ℕ). digits b k m ++ (glyph ((n * b + d) % b) ∷ [])) (digits_div n h) ∙ ap (λ (m : ℕ). digits b k n ++ (glyph m ∷ [])) (digits_mod n h)

-- the digits of a number in two parts
pub digits_split : (b j k n m : ℕ) → 0 < b → m < b ^ k → digits b (j + k) (n * b ^ k + m) ≡ digits b j n ++ digits b k m
unfolding digits
digits_split b j zero n m pos h =
    let none : m ≡ 0 = let g = subst (λ (x : ℕ). m < x) (pow-zero b) h in omega arith in
    ap (λ (i : ℕ). digits b i (n * b ^ 0 + m)) (add-zero j) ∙ ap (λ (x : ℕ). digits b j (n * x + m)) (pow-zero b)
    ∙ ap (digits b j) (let e : n * 1 + m ≡ n = omega arith in e) ∙ sym (append-nil (digits b j n))
digits_split b j (suc k) n m pos h =
    let small : m / b < b ^ k = (div-lt_iff_lt-mul pos).1 (subst (λ (x : ℕ). m < x) (pow-suc b k) h) in
    let parts : n * (b ^ k * b) + m ≡ (n * b ^ k + m / b) * b + m % b = omega (arith, div-add-mod' m b) in
    ap (λ (i : ℕ). digits b i (n * b ^ suc k + m)) (add-suc j k) ∙ ap (λ (x : ℕ). digits b (suc (j + k)) (n * x + m)) (pow-suc b k)
    ∙ ap (digits b (suc (j + k))) parts ∙ digits_more b (j + k) (n * b ^ k + m / b) (m % b) (mod-lt m pos)
    ∙ ap (λ (t : List ℕ). t ++ (glyph (m % b) ∷ [])) (digits_split b j k n (m / b) pos small) ∙ append_assoc (digits b j n) (digits b k (m / b)) (glyph (m % b) ∷ [])

-- digit j, from 0 at the left
pub digits_at : (b k n j : ℕ) → j < k → get_or (digits b k n) j 0 ≡ glyph (n / b ^ (k - 1 - j) % b)
unfolding digits
digits_at b zero n j h = absurd (omega arith)
digits_at b (suc k) n j h = ⊎_elim
    (λ l. let up : k - 1 - j + 1 ≡ suc k - 1 - j = omega arith in
    get_or-append (digits b k (n / b)) (glyph (n % b) ∷ []) 0 j (let e = digits_length b k (n / b) in omega arith) ∙ digits_at b k (n / b) j l
    ∙ ap (λ (x : ℕ). glyph (x % b)) (div-div-eq-div-mul n b (b ^ (k - 1 - j)) ∙ ap (λ (x : ℕ). n / x) (sym (pow-succ' b (k - 1 - j)) ∙ ap (λ (x : ℕ). b ^ x) (sym (add-one (k - 1 - j)) ∙ up))))
    (λ l. let last : j ≡ k = omega arith in
    let none : 0 ≡ suc k - 1 - j = omega arith in
    get_or_at (digits b k (n / b)) (glyph (n % b)) [] 0 j (digits_length b k (n / b) ∙ sym last)
    ∙ ap (λ (x : ℕ). glyph (x % b)) (sym (div-one n) ∙ ap (λ (x : ℕ). n / x) (sym (pow-zero b) ∙ ap (λ (x : ℕ). b ^ x) none)))
    (lt_or_le j k)

-- c is a digit below b
abbrev pub Glyph : ℕ → ℕ → Type 0
Glyph b c = (d : ℕ) × (d < b) × (c ≡ glyph d)

pub digits_glyphs : (b k n : ℕ) → 0 < b → All (Glyph b) (digits b k n)
unfolding digits
digits_glyphs b zero n pos = none
digits_glyphs b (suc k) n pos = all_append (digits_glyphs b k (n / b) pos) (more (n % b, mod-lt n pos, refl) none)

pub digits_one : (k n m : ℕ) → n < 16 ^ k → m < 16 ^ k → digits 16 k n ≡ digits 16 k m → n ≡ m
unfolding digits
digits_one zero n m h g e = omega arith
digits_one (suc k) n m h g e =
    let up = pow-suc 16 k in
    let s = digits_length 16 k (n / 16) in
    let t = digits_length 16 k (m / 16) in
    let front : digits 16 k (n / 16) ≡ digits 16 k (m / 16)
    = sym (take_at (digits 16 k (n / 16)) (glyph (n % 16) ∷ []) k s) ∙ ap (take k) e ∙ take_at (digits 16 k (m / 16)) (glyph (m % 16) ∷ []) k t in
    let last : glyph (n % 16) ≡ glyph (m % 16)
    = sym (get_or_at (digits 16 k (n / 16)) (glyph (n % 16)) [] 0 k s) ∙ ap (λ (x : List ℕ). get_or x k 0) e ∙ get_or_at (digits 16 k (m / 16)) (glyph (m % 16)) [] 0 k t in
    let high = digits_one k (n / 16) (m / 16) (omega arith) (omega arith) front in
    let low = glyph_one (n % 16) (m % 16) (omega arith) (omega arith) last in
    omega arith
