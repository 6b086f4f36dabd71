-- The words of a base, however many: how far it goes, which of them a character stands in, and that the words make the
-- base and the base its words. Assumes nothing.
use mathlib.Core.Path.{◌≡◌, refl, sym, ap, ap₂, ◌∙◌, subst}
use mathlib.Core.List.{List, [], ◌∷◌}
use mathlib.Core.Logic.{⊎_elim}
use Prim.Native.Nat.{ℕ, zero, suc, ◌+◌, ◌-◌, ◌*◌, ◌/◌, ◌%◌, ◌^◌, ◌<◌}
use native.Mathlib.Nat.{mod-lt, mod-one, zero-mod, zero-div, div-one}
use native.Mathlib.Omega.{arith}
use lib.Arith.{digits_lt}
use lib.Dec.{lit<}
use lib.ListN.{length, get_or, take}
use lib.Pow.{pow-add, split, high, low, shr_lt, shr-shr, mod-pow-add}
use Rattle.plain.specs.All.{All}
use Rattle.plain.specs.All.All.{none, more}
use Rattle.bases.specs.Base.{base_of, Word, words_in}
use Rattle.bases.proofs.Laws.{one_word, first_word, next_words}
use Rattle.plain.proofs.Plain.{lt_or_le}

-- ---- how far so many words go

pub bound_more : (k w : ℕ) (ws : List ℕ) → w < 2 ^ 64 → base_of ws < 2 ^ k → base_of (w ∷ ws) < 2 ^ (k + 64)
unfolding base_of
bound_more k w ws h l = rw (pow-add 2 k 64) (digits_lt l h)

pub words_bound : {ws : List ℕ} → All Word ws → base_of ws < 2 ^ (length ws * 64)
unfolding base_of
words_bound none = lit< tt
words_bound (more {a = w} {l = ws} h g) =
    let e : length ws * 64 + 64 ≡ suc (length ws) * 64 = omega arith in
    subst (λ (k : ℕ). base_of (w ∷ ws) < 2 ^ k) e (bound_more (length ws * 64) w ws h (words_bound g))

-- ---- some words of a base

-- the first n
pub first_words : (n : ℕ) {ws : List ℕ} → All Word ws → base_of (take n ws) ≡ base_of ws % 2 ^ (n * 64)
unfolding base_of
first_words zero g = sym (mod-one _)
first_words (suc n) none = sym (zero-mod _)
first_words (suc n) (more {a = w} {l = ws} h g) =
    let e : n * 64 + 64 ≡ suc n * 64 = omega arith in
    let x = base_of ws * 2 ^ 64 + w in
    ap (λ (k : ℕ). k * 2 ^ 64 + w) (first_words n g)
    ∙ sym (ap₂ (λ (i j : ℕ). i % 2 ^ (n * 64) * 2 ^ 64 + j) (high (base_of ws) 64 h) (low (base_of ws) 64 h))
    ∙ sym (mod-pow-add x (n * 64) 64) ∙ ap (λ (k : ℕ). x % 2 ^ k) e

-- word k, from 0
pub word_at : (k : ℕ) {ws : List ℕ} → All Word ws → get_or ws k 0 ≡ base_of ws / 2 ^ (k * 64) % 2 ^ 64
unfolding base_of
word_at k none = sym (ap (λ (x : ℕ). x % 2 ^ 64) (zero-div (2 ^ (k * 64))) ∙ zero-mod (2 ^ 64))
word_at zero (more {a = w} {l = ws} h g) = sym (ap (λ (x : ℕ). x % 2 ^ 64) (div-one _) ∙ low (base_of ws) 64 h)
word_at (suc k) (more {a = w} {l = ws} h g) =
    let e : 64 + k * 64 ≡ suc k * 64 = omega arith in
    let x = base_of ws * 2 ^ 64 + w in
    word_at k g ∙ ap (λ (y : ℕ). y / 2 ^ (k * 64) % 2 ^ 64) (sym (high (base_of ws) 64 h))
    ∙ ap (λ (y : ℕ). y % 2 ^ 64) (shr-shr x 64 (k * 64) ∙ ap (λ (j : ℕ). x / 2 ^ j) e)

-- a character stands in the word of its 64 codes
pub in_word : (c : ℕ) {ws : List ℕ} → All Word ws → base_of ws / 2 ^ c % 2 ≡ get_or ws (c / 64) 0 / 2 ^ (c % 64) % 2
unfolding base_of
in_word c none = ap (λ (x : ℕ). x % 2) (zero-div (2 ^ c) ∙ sym (zero-div (2 ^ (c % 64))))
in_word c (more {a = w} {l = ws} h g) = ⊎_elim
    (λ l. let word : 0 ≡ c / 64 = omega arith in
    let bit : c ≡ c % 64 = omega arith in
    first_word w c ws l ∙ (λ i. get_or (w ∷ ws) (word i) 0 / 2 ^ bit i % 2))
    (λ l. let d = c - 64 in
    let back : c ≡ 64 + d = omega arith in
    let word : suc (d / 64) ≡ c / 64 = omega arith in
    let bit : d % 64 ≡ c % 64 = omega arith in
    ap (λ (x : ℕ). base_of (w ∷ ws) / 2 ^ x % 2) back ∙ next_words w d ws h ∙ in_word d g ∙ (λ i. get_or (w ∷ ws) (word i) 0 / 2 ^ bit i % 2))
    (lt_or_le c 64)

-- ---- the words make the base, and the base its words

pub words_count : (n b : ℕ) → length (words_in n b) ≡ n
unfolding words_in
words_count zero b = refl
words_count (suc zero) b = refl
words_count (suc (suc n)) b = ap suc (words_count (suc n) (b / 2 ^ 64))

pub base_back : (n b : ℕ) → base_of (words_in (suc n) b) ≡ b
unfolding words_in base_of
base_back zero b = one_word b
base_back (suc n) b = ap (λ (x : ℕ). x * 2 ^ 64 + b % 2 ^ 64) (base_back n (b / 2 ^ 64)) ∙ split b 64

pub words_back : (n : ℕ) {ws : List ℕ} → All Word ws → length ws ≡ suc n → words_in (suc n) (base_of ws) ≡ ws
unfolding words_in base_of
words_back n none e = absurd (omega arith)
words_back zero (more {a = w} h none) e = ap (λ (x : ℕ). x ∷ []) (one_word w)
words_back zero (more h (more k g)) e = absurd (omega arith)
words_back (suc n) (more {a = w} {l = ws} h g) e =
    ap₂ ◌∷◌ (low (base_of ws) 64 h) (ap (words_in (suc n)) (high (base_of ws) 64 h) ∙ words_back n g (omega arith))

pub words_small : (n b : ℕ) → b < 2 ^ (suc n * 64) → All Word (words_in (suc n) b)
unfolding words_in
words_small zero b h = more h none
words_small (suc n) b h =
    let e : suc (suc n) * 64 ≡ suc n * 64 + 64 = omega arith in
    more (mod-lt b {m = 2 ^ 64} (lit< tt)) (words_small n (b / 2 ^ 64) (shr_lt (suc n * 64) 64 (subst (λ (k : ℕ). b < 2 ^ k) e h)))
