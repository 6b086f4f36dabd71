-- The lowest bit of a number, and the number without it: n & (n - 1). Assumes nothing.
use mathlib.Core.Path.{◌≡◌, refl, sym, ap, ◌∙◌, subst}
use mathlib.Core.Logic.{◌⊎◌, inl, inr, ⊎_elim}
use Prim.Native.Nat.{ℕ, zero, suc, ◌-◌, ◌/◌, ◌%◌, ◌^◌, ◌<◌}
use native.Mathlib.Nat.{mod-lt, div-one}
use native.Mathlib.Omega.{arith}
use lib.Bits.{bit_and, and_le_r}
use lib.Dec.{lit<}
use Rattle.bases.specs.Base.{Holds, Empty, Least}
use Rattle.bases.proofs.Laws.{halved, none_in_zero}
use Rattle.plain.proofs.Plain.{eq_or_ne}
use Rattle.sets.specs.Set.{Exactly}
use Rattle.sets.proofs.Exact.{exactly_as, both_exactly}

odd_or_even : (n : ℕ) → (n % 2 ≡ 1) ⊎ (n % 2 ≡ 0)
odd_or_even n = ⊎_elim (λ h. inl h) (λ h. inr (omega (arith, mod-lt n {m = 2} (lit< tt)))) (eq_or_ne (n % 2) 1)

bit_zero : (n : ℕ) → n / 2 ^ 0 % 2 ≡ n % 2
bit_zero n = ap (λ (x : ℕ). x % 2) (div-one n)

halved_at : (m n e : ℕ) → n / 2 ≡ m → n / 2 ^ suc e % 2 ≡ m / 2 ^ e % 2
halved_at m n e h = halved n e ∙ ap (λ (x : ℕ). x / 2 ^ e % 2) h

least_half : (n t : ℕ) → Least n (suc t) → Least (n / 2) t
unfolding Holds
least_half n t l = record { held = sym (halved n t) ∙ l.held; least = λ d h. let z = l.least (suc d) (halved n d ∙ h) in omega arith }

not_zero : (n t : ℕ) → Least n t → n ≡ 0 → ⊥
unfolding Empty
not_zero n t l z = none_in_zero t (subst (λ (x : ℕ). Holds x t) z l.held)

even_least : (n t : ℕ) → Least n (suc t) → (n % 2 ≡ 0) × (0 < n)
unfolding Holds
even_least n t l = ⊎_elim
    (λ o. let z = l.least 0 (bit_zero n ∙ o) in absurd (omega arith))
    (λ e. (e, let z = not_zero n (suc t) l in omega arith))
    (odd_or_even n)

-- n - 1 lacks the lowest bit of n, and has each other
below_lacks : (t n : ℕ) → Least n t → Holds (n - 1) t → ⊥
unfolding Holds
below_lacks zero n l h =
    let o : n % 2 ≡ 1 = sym (bit_zero n) ∙ l.held in
    let z : (n - 1) % 2 ≡ 1 = sym (bit_zero (n - 1)) ∙ h in
    omega arith
below_lacks (suc t) n l h =
    let e = even_least n t l in
    let half : (n - 1) / 2 ≡ n / 2 - 1 = omega arith in
    below_lacks t (n / 2) (least_half n t l) (sym (halved_at (n / 2 - 1) (n - 1) t half) ∙ h)

below_has : (e n t : ℕ) → Least n t → Holds n e → (e ≡ t → ⊥) → Holds (n - 1) e
unfolding Holds
below_has zero n t l h ne = let z = l.least 0 h in absurd (ne (omega arith))
below_has (suc e) n zero l h ne =
    let o : n % 2 ≡ 1 = sym (bit_zero n) ∙ l.held in
    halved_at (n / 2) (n - 1) e (omega arith) ∙ sym (halved n e) ∙ h
below_has (suc e) n (suc t) l h ne =
    let v = even_least n t l in
    let half : (n - 1) / 2 ≡ n / 2 - 1 = omega arith in
    halved_at (n / 2 - 1) (n - 1) e half ∙ below_has e (n / 2) t (least_half n t l) (sym (halved n e) ∙ h) (λ z. ne (ap suc z))

pub lowest_off : (n : ℕ) {t : ℕ} → Least n t → Exactly (bit_and n (n - 1)) (λ e. Holds n e × (e ≡ t → ⊥))
lowest_off n {t} l = exactly_as
    (λ e h. (h.0, λ z. below_lacks t n l (subst (Holds (n - 1)) z h.1)))
    (λ e h. (h.0, below_has e n t l h.0 h.1))
    (both_exactly n (n - 1) refl)

pub fewer_left : (n : ℕ) → (n ≡ 0 → ⊥) → bit_and n (n - 1) < n
fewer_left n h = let l = and_le_r n (n - 1) in omega arith
