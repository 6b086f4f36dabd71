-- Which numbers a number holds: laws of `Exactly` for every operation, whatever the number of words. Assumes nothing.
use mathlib.Core.Path.{◌≡◌, refl, sym, ap, ap₂, ◌∙◌, subst}
use mathlib.Core.Logic.{◌⊎◌, ⊎_elim}
use Prim.Native.Nat.{ℕ, zero, suc, ◌+◌, ◌-◌, ◌*◌, ◌/◌, ◌%◌, ◌^◌, ◌≤◌, ◌<◌}
use native.Mathlib.Nat.{mod-lt, div-one, div-eq_of_lt, lt_of_lt_of_le, lt_of_le_of_lt, pow-suc, one-mul, add_comm, mul-mod_left}
use native.Mathlib.Numerals.{add-one}
use native.Mathlib.Omega.{arith}
use lib.Arith.{dbl_pred}
use lib.Bits.{bit_and, bit_or, bit_xor, and_shr, and_mod, xor_shr, xor_mod, and_zero_l}
use lib.Dec.{lit<, eqb}
use lib.Pow.{pow_mono, pow_pos, field, mod-mod-pow, ones_split, ones_lt, high, shr-shr, shl-shr, shl_exact}
use Rattle.bases.specs.Base.{Holds, Empty}
use Rattle.plain.specs.Tells.{Tells}
use Rattle.bases.proofs.Laws.{halved, none_in_zero}
use Rattle.plain.proofs.Tells.{tells_bit}
use Rattle.plain.proofs.Plain.{lt_or_le, eq_or_ne}
use Rattle.bases.proofs.Sets.{same_base, within_most, both, shared, either, in_first, in_second}
use Rattle.sets.specs.Set.{Exactly, OneUp}

-- ---- what a property says of the number

pub exactly_one : {m n : ℕ} {P : ℕ → Type 0} → Exactly m P → Exactly n P → m ≡ n
exactly_one x y = same_base _ _ (λ e h. y.has e (x.so e h)) (λ e h. x.has e (y.so e h))

pub exactly_as : {n : ℕ} {P Q : ℕ → Type 0} → ((e : ℕ) → P e → Q e) → ((e : ℕ) → Q e → P e) → Exactly n P → Exactly n Q
exactly_as f g x = record { so = λ e h. f e (x.so e h); has = λ e q. x.has e (g e q) }

pub exactly_at : {m n : ℕ} {P : ℕ → Type 0} → m ≡ n → Exactly n P → Exactly m P
exactly_at {P} e x = subst (λ (z : ℕ). Exactly z P) (sym e) x

-- ---- held or not

pub held_or_not : (n e : ℕ) → Holds n e ⊎ (Holds n e → ⊥)
unfolding Holds
held_or_not n e = eq_or_ne (n / 2 ^ e % 2) 1

bit_off : (n e : ℕ) → (Holds n e → ⊥) → n / 2 ^ e % 2 ≡ 0
unfolding Holds
bit_off n e h = omega (arith, h, mod-lt (n / 2 ^ e) {m = 2} (lit< tt))

not_one : ◌≡◌ {A = ℕ} 0 1 → ⊥
not_one h = omega arith

-- a number below 2 ^ k holds nothing from k on
pub held_under : (k : ℕ) {n : ℕ} → n < 2 ^ k → (e : ℕ) → Holds n e → e < k
unfolding Holds
held_under k h e b = ⊎_elim
    (λ small. small)
    (λ large. absurd (not_one (sym (ap (λ (x : ℕ). x % 2) (div-eq_of_lt (lt_of_lt_of_le h (pow_mono large)))) ∙ b)))
    (lt_or_le e k)

-- a test of an equal bit tells whether it is held
pub tells_same : {x y : ℕ} → x ≡ y → Tells (eqb y 1) (x ≡ 1)
tells_same e = tells_bit _ (λ h. e ∙ h) (λ h. sym e ∙ h)

-- ---- none, both, either, without

pub none_exactly : {n : ℕ} {P : ℕ → Type 0} → n ≡ 0 → ((e : ℕ) → P e → ⊥) → Exactly n P
unfolding Empty
none_exactly z none = exactly_at z (record { so = λ e h. absurd (none_in_zero e h); has = λ e p. absurd (none e p) })

pub both_exactly : (s t : ℕ) {n : ℕ} → n ≡ bit_and s t → Exactly n (λ e. Holds s e × Holds t e)
both_exactly s t d = exactly_at d (record { so = shared s t; has = λ e h. both s t e h.0 h.1 })

pub either_exactly : (s t : ℕ) {n : ℕ} → n ≡ bit_or s t → Exactly n (λ e. Holds s e ⊎ Holds t e)
either_exactly s t d = exactly_at d (record { so = either s t; has = λ e h. ⊎_elim (in_first s t e) (in_second s t e) h })

-- what t leaves of s
abbrev rest : ℕ → ℕ → ℕ
rest s t = bit_xor s (bit_and s t)

rest_bit : (s t e : ℕ) → rest s t / 2 ^ e % 2 ≡ rest (s / 2 ^ e % 2) (t / 2 ^ e % 2)
rest_bit s t e =
    ap (λ (x : ℕ). x % 2) (xor_shr s (bit_and s t) e) ∙ xor_mod (s / 2 ^ e) (bit_and s t / 2 ^ e) 1
    ∙ ap (bit_xor (s / 2 ^ e % 2)) (ap (λ (x : ℕ). x % 2) (and_shr s t e) ∙ and_mod (s / 2 ^ e) (t / 2 ^ e) 1)

pub without_exactly : (s t : ℕ) {n : ℕ} → n ≡ bit_xor s (bit_and s t) → Exactly n (λ e. Holds s e × (Holds t e → ⊥))
unfolding Holds
without_exactly s t d = exactly_at d (record {
  so = λ e h.
      let b : rest (s / 2 ^ e % 2) (t / 2 ^ e % 2) ≡ 1 = sym (rest_bit s t e) ∙ h in
      ⊎_elim
      (λ in-s. (in-s, λ in-t. not_one (sym (ap₂ rest in-s in-t) ∙ b)))
      (λ out. absurd (not_one (sym (ap (λ (x : ℕ). rest x (t / 2 ^ e % 2)) (bit_off s e out) ∙ and_zero_l (t / 2 ^ e % 2)) ∙ b)))
      (held_or_not s e);
  has = λ e h. rest_bit s t e ∙ ap₂ rest h.0 (bit_off t e h.1);
})

-- without one number: a smaller number, if it was there
pub without_one : (s : ℕ) {one n i : ℕ} → Exactly one (λ e. e ≡ i) → Exactly n (λ e. Holds s e × (Holds one e → ⊥)) → Exactly n (λ e. Holds s e × (e ≡ i → ⊥))
without_one s o x = exactly_as (λ e h. (h.0, λ d. h.1 (o.has e d))) (λ e h. (h.0, λ d. h.1 (o.so e d))) x

pub one_fewer : {n : ℕ} (s i : ℕ) → Exactly n (λ e. Holds s e × (e ≡ i → ⊥)) → Holds s i → n < s
one_fewer {n} s i x h = ⊎_elim (λ l. l)
    (λ l. let le = within_most n s (λ c g. (x.so c g).0) in let same : s ≡ n = omega arith in absurd ((x.so i (subst (λ (v : ℕ). Holds v i) same h)).1 refl))
    (lt_or_le n s)

-- ---- one up and one down

pub down_exactly : (s : ℕ) {n : ℕ} → n ≡ s / 2 → Exactly n (λ e. Holds s (e + 1))
unfolding Holds
down_exactly s d = exactly_at d (record { so = λ e h. rw add-one (halved s e ∙ h); has = λ e h. sym (halved s e) ∙ (rw add-one at h) })

double_exactly : (s : ℕ) → Exactly (s * 2) (OneUp s)
unfolding Holds
double_exactly s = record { so = so; has = λ e u. rw (u.next, add-one) (twice u.number ∙ u.held) }
  where
    twice : (q : ℕ) → s * 2 / 2 ^ suc q % 2 ≡ s / 2 ^ q % 2
    twice q = halved (s * 2) q ∙ ap (λ (x : ℕ). x / 2 ^ q % 2) (let z : s * 2 / 2 ≡ s = omega arith in z)

    so : (e : ℕ) → s * 2 / 2 ^ e % 2 ≡ 1 → OneUp s e
    so zero h = let z : s * 2 % 2 ≡ 1 = sym (ap (λ (x : ℕ). x % 2) (div-one (s * 2))) ∙ h in absurd (omega arith)
    so (suc q) h = record { number = q; held = sym (twice q) ∙ h; next = sym (add-one q) }

-- no more than k bits kept
pub kept_exactly : (n k : ℕ) → Exactly (n % 2 ^ k) (λ e. (e < k) × Holds n e)
unfolding Holds
kept_exactly n k = record {
  so = λ e h. let l = held_under k (mod-lt n (pow_pos k)) e h in (l, sym (kept e l) ∙ h);
  has = λ e h. kept e h.0 ∙ h.1;
}
  where
    kept : (e : ℕ) → e < k → n % 2 ^ k / 2 ^ e % 2 ≡ n / 2 ^ e % 2
    kept e l =
        let j : ℕ = k - e - 1 in
        let split : k ≡ j + 1 + e = omega arith in
        ap (λ (z : ℕ). n % 2 ^ z / 2 ^ e % 2) split ∙ ap (λ (z : ℕ). z % 2) (field n (j + 1) e) ∙ mod-mod-pow (n / 2 ^ e) j 1

pub up_exactly : (s k : ℕ) {n : ℕ} → n ≡ s * 2 % 2 ^ k → Exactly n (λ e. (e < k) × OneUp s e)
up_exactly s k d = exactly_at d
    (exactly_as (λ e h. (h.0, (double_exactly s).so e h.1)) (λ e h. (h.0, (double_exactly s).has e h.1)) (kept_exactly (s * 2) k))

-- ---- so many up and so many down

pub lower_exactly : (n d : ℕ) {m : ℕ} → m ≡ n / 2 ^ d → Exactly m (λ e. Holds n (e + d))
unfolding Holds
lower_exactly n d z = exactly_at z (record { so = λ e h. sym (at e) ∙ h; has = λ e h. at e ∙ h })
  where
    at : (e : ℕ) → n / 2 ^ d / 2 ^ e % 2 ≡ n / 2 ^ (e + d) % 2
    at e = ap (λ (x : ℕ). x % 2) (shr-shr n d e ∙ ap (λ (x : ℕ). n / 2 ^ x) (add_comm d e))

pub raise_exactly : (n d : ℕ) {m : ℕ} → m ≡ n * 2 ^ d → Exactly m (λ e. (d ≤ e) × Holds n (e - d))
unfolding Empty
raise_exactly n d {m} z = record {
  so = λ e h. ⊎_elim (λ l. absurd (none e l h)) (λ l. (l, subst (λ (x : ℕ). Holds x (e - d)) back (down.has (e - d) (subst (Holds m) (at e l) h)))) (lt_or_le e d);
  has = λ e h. subst (Holds m) (sym (at e h.0)) (down.so (e - d) (subst (λ (x : ℕ). Holds x (e - d)) (sym back) h.1));
}
  where
    down : Exactly (m / 2 ^ d) (λ e. Holds m (e + d))
    down = lower_exactly m d refl

    back : m / 2 ^ d ≡ n
    back = ap (λ (x : ℕ). x / 2 ^ d) z ∙ shl-shr n d

    at : (e : ℕ) → d ≤ e → e ≡ e - d + d
    at e l = omega arith

    -- below d nothing is held
    none : (e : ℕ) → e < d → Holds m e → ⊥
    none e l h = none_in_zero e (subst (λ (x : ℕ). Holds x e) (ap (λ (x : ℕ). x % 2 ^ d) z ∙ mul-mod_left n (2 ^ d)) ((kept_exactly m d).has e (l, h)))

-- ---- 2 ^ k and 2 ^ k - 1

pub one_exactly : (k : ℕ) → Exactly (2 ^ k) (λ e. e ≡ k)
unfolding Holds
one_exactly zero = record { so = λ e h. let l = held_under 1 (lit< tt) e h in omega arith; has = λ e z. rw z refl }
one_exactly (suc k) = exactly_at (pow-suc 2 k) (exactly_as
    (λ e u. u.next ∙ add-one u.number ∙ ap suc ((one_exactly k).so u.number u.held))
    (λ e z. record { number = k; held = (one_exactly k).has k refl; next = z ∙ sym (add-one k) })
    (double_exactly (2 ^ k)))

pub ones_exactly : (k : ℕ) → Exactly (2 ^ k - 1) (λ e. e < k)
unfolding Holds
ones_exactly k = record { so = held_under k (ones_lt k); has = has }
  where
    odd : (i : ℕ) → (2 ^ suc i - 1) % 2 ≡ 1
    odd i =
        let z : ((2 ^ i - 1) * 2 + 1) % 2 ≡ 1 = omega arith in
        ap (λ (x : ℕ). x % 2) (ap (λ (x : ℕ). x - 1) (pow-suc 2 i) ∙ dbl_pred (pow_pos i)) ∙ z

    has : (e : ℕ) → e < k → (2 ^ k - 1) / 2 ^ e % 2 ≡ 1
    has e l =
        let i : ℕ = k - e - 1 in
        let split : k ≡ suc i + e = omega arith in
        ap (λ (z : ℕ). (2 ^ z - 1) / 2 ^ e % 2) split
        ∙ ap (λ (z : ℕ). z % 2) (ap (λ (z : ℕ). z / 2 ^ e) (ones_split (suc i) e) ∙ high (2 ^ suc i - 1) e (ones_lt e)) ∙ odd i

-- a number that holds nothing from k on is below 2 ^ k
pub under_held : (k : ℕ) {n : ℕ} → ((e : ℕ) → Holds n e → e < k) → n < 2 ^ k
under_held k {n} u = lt_of_le_of_lt (within_most n (2 ^ k - 1) (λ e h. (ones_exactly k).has e (u e h))) (ones_lt k)

-- a one, shifted within a word
pub one_shl : (k : ℕ) → k < 64 → (1 * 2 ^ k) % 2 ^ 64 ≡ 2 ^ k
one_shl k h = shl_exact 1 k 64 (lit< tt) (omega arith) ∙ one-mul (2 ^ k)
