-- A set in words with each number so many down. Assumes nothing.
use Rattle.std.proofs.Common.{◌≡◌, ℕ, ◌+◌, ◌*◌, ◌/◌, ◌%◌, ◌^◌, ◌<◌, List, [], ◌∷◌, sym, ap, ◌∙◌, subst, ap₂, add-zero, add_assoc, mod-lt, mul_assoc, add-mul, arith, pow_pos, pow-add, shr_lt}
use lib.Bits.{bit_or, or_shifted_r}
use lib.Pow.{split, high, low, mod-pow-add, mod-mod-pow, shl-shr}
use Rattle.bases.specs.Base.{base_of}
use Rattle.bases.proofs.Laws.{one_word}
use Rattle.sets.specs.declared.Set.{Set}
use Rattle.sets.specs.Set.{set_of, Proper}

-- ---- within words: k bits down, and e left, 64 in all

module _ (k e : ℕ) (all : e + k ≡ 64) where
  pow_all : 2 ^ 64 ≡ 2 ^ e * 2 ^ k
  pow_all = ap (λ (n : ℕ). 2 ^ n) (sym all) ∙ pow-add 2 e k

  -- the lowest bits of x, moved to the top of a word
  top : (x : ℕ) → (x * 2 ^ e) % 2 ^ 64 ≡ (x % 2 ^ k) * 2 ^ e
  top x =
      let turned : 64 ≡ k + e = omega arith in
      let none : (x * 2 ^ e) % 2 ^ e ≡ 0 = ap (λ (n : ℕ). n % 2 ^ e) (sym (add-zero (x * 2 ^ e))) ∙ low x e (pow_pos e) in
      ap (λ (n : ℕ). (x * 2 ^ e) % 2 ^ n) turned ∙ mod-pow-add (x * 2 ^ e) k e
      ∙ ap₂ (λ (m n : ℕ). m % 2 ^ k * 2 ^ e + n) (shl-shr x e) none ∙ add-zero _

  word : (w x : ℕ) → w < 2 ^ 64 → bit_or (w / 2 ^ k) ((x * 2 ^ e) % 2 ^ 64) ≡ (x % 2 ^ k) * 2 ^ e + w / 2 ^ k
  word w x h =
      let l : w / 2 ^ k < 2 ^ e = shr_lt e k (subst (λ (n : ℕ). w < 2 ^ n) (sym all) h) in
      ap (bit_or (w / 2 ^ k)) (top x) ∙ or_shifted_r (x % 2 ^ k) e (w / 2 ^ k) l

  -- a word w below m
  below_words : (m w : ℕ) → (m * 2 ^ 64 + w) / 2 ^ k ≡ m * 2 ^ e + w / 2 ^ k
  below_words m w =
      let parts : m * 2 ^ 64 + w ≡ (m * 2 ^ e + w / 2 ^ k) * 2 ^ k + w % 2 ^ k =
      ap₂ (λ (a b : ℕ). a + b) (ap (λ (n : ℕ). m * n) pow_all ∙ sym (mul_assoc m (2 ^ e) (2 ^ k))) (sym (split w k))
      ∙ sym (add_assoc (m * 2 ^ e * 2 ^ k) (w / 2 ^ k * 2 ^ k) (w % 2 ^ k))
      ∙ ap (λ (n : ℕ). n + w % 2 ^ k) (sym (add-mul (m * 2 ^ e) (w / 2 ^ k) (2 ^ k))) in
      ap (λ (n : ℕ). n / 2 ^ k) parts ∙ high (m * 2 ^ e + w / 2 ^ k) k (mod-lt w (pow_pos k))

  -- the lowest bits of words are those of the first
  low_bits : (a x : ℕ) → x < 2 ^ 64 → (a * 2 ^ 64 + x) % 2 ^ k ≡ x % 2 ^ k
  low_bits a x h =
      let whole : (a * 2 ^ 64 + x) % 2 ^ (e + k) ≡ x = ap (λ (n : ℕ). (a * 2 ^ 64 + x) % 2 ^ n) all ∙ low a 64 h in
      sym (mod-mod-pow (a * 2 ^ 64 + x) e k) ∙ ap (λ (n : ℕ). n % 2 ^ k) whole

  more : (w x : ℕ) (ws vs : List ℕ) → w < 2 ^ 64 → x < 2 ^ 64 → base_of vs ≡ base_of (x ∷ ws) / 2 ^ k
      → base_of (bit_or (w / 2 ^ k) ((x * 2 ^ e) % 2 ^ 64) ∷ vs) ≡ base_of (w ∷ (x ∷ ws)) / 2 ^ k
  unfolding base_of
  more w x ws vs h g d =
      let m : ℕ = base_of ws * 2 ^ 64 + x in
      let r : ℕ = w / 2 ^ k in
      let joined : m / 2 ^ k * 2 ^ 64 + (m % 2 ^ k * 2 ^ e + r) ≡ m * 2 ^ e + r =
      ap (λ (n : ℕ). n + (m % 2 ^ k * 2 ^ e + r)) (ap (λ (n : ℕ). m / 2 ^ k * n) (ap (λ (n : ℕ). 2 ^ n) (let t : 64 ≡ k + e = omega arith in t) ∙ pow-add 2 k e) ∙ sym (mul_assoc (m / 2 ^ k) (2 ^ k) (2 ^ e)))
      ∙ sym (add_assoc (m / 2 ^ k * 2 ^ k * 2 ^ e) (m % 2 ^ k * 2 ^ e) r)
      ∙ ap (λ (n : ℕ). n + r) (sym (add-mul (m / 2 ^ k * 2 ^ k) (m % 2 ^ k) (2 ^ e)) ∙ ap (λ (n : ℕ). n * 2 ^ e) (split m k)) in
      ap₂ (λ (a b : ℕ). a * 2 ^ 64 + b) d (word w x h ∙ ap (λ (n : ℕ). n * 2 ^ e + r) (sym (low_bits (base_of ws) x g)))
      ∙ joined ∙ sym (below_words m w)

  last : (w : ℕ) → base_of (w / 2 ^ k ∷ []) ≡ base_of (w ∷ []) / 2 ^ k
  last w = one_word (w / 2 ^ k) ∙ sym (ap (λ (n : ℕ). n / 2 ^ k) (one_word w))

  pub bits_down_words : (s : Set) → Proper s → set_of (record {
    a = bit_or (s.a / 2 ^ k) ((s.b * 2 ^ e) % 2 ^ 64);
    b = bit_or (s.b / 2 ^ k) ((s.c * 2 ^ e) % 2 ^ 64);
    c = bit_or (s.c / 2 ^ k) ((s.d * 2 ^ e) % 2 ^ 64);
    d = s.d / 2 ^ k;
  }) ≡ set_of s / 2 ^ k
  unfolding set_of
  bits_down_words s f = more _ _ _ _ f.a f.b (more _ _ _ _ f.b f.c (more _ _ _ _ f.c f.d (last s.d)))

-- ---- by a word

pub word_down_words : (s : Set) → Proper s → set_of (record { a = s.b; b = s.c; c = s.d; d = 0 }) ≡ set_of s / 2 ^ 64
unfolding set_of base_of
word_down_words s f = sym (high (base_of (s.b ∷ (s.c ∷ (s.d ∷ [])))) 64 f.a)
