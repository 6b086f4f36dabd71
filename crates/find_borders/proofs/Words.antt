-- Bits of a word: one added, all moved up. Assumes nothing.
use mathlib.Core.Path.{◌≡◌, refl, sym, ◌∙◌}
use mathlib.Core.Bool.{Bool, true, false, true≢false}
use mathlib.Core.Logic.{◌⊎◌, inl, inr, ⊎_elim}
use Prim.Native.Nat.{ℕ, ◌*◌, ◌%◌, ◌^◌, ◌<◌}
use lib.Bits.{bit_and, bit_or}
use Rattle.bases.specs.Base.{Holds}
use Rattle.sets.specs.Set.{Exactly}
use Rattle.sets.proofs.Exact.{exactly_as, exactly_at, either_exactly, both_exactly, up_exactly, one_exactly, one_shl}
use Rattle.find_borders.specs.Borders.{UpOne}

pub added : (w q : ℕ) {yes : Bool} → q < 64 → yes ≡ true → Exactly (bit_or w (1 * 2 ^ q % 2 ^ 64)) (λ e. Holds w e ⊎ ((e ≡ q) × (yes ≡ true)))
added w q l t =
    let x = exactly_at (one_shl q l) (one_exactly q) in
    exactly_as (λ e h. ⊎_elim (λ i. inl i) (λ i. inr (x.so e i, t)) h) (λ e h. ⊎_elim (λ i. inl i) (λ i. inr (x.has e i.0)) h)
    (either_exactly w (1 * 2 ^ q % 2 ^ 64) refl)

pub not_added : (w q : ℕ) {yes : Bool} → yes ≡ false → Exactly w (λ e. Holds w e ⊎ ((e ≡ q) × (yes ≡ true)))
not_added w q f = record { so = λ e h. inl h; has = λ e h. ⊎_elim (λ i. i) (λ i. absurd (true≢false (sym i.1 ∙ f))) h }

pub up_one : (w s : ℕ) → Exactly (bit_or (bit_and w s * 2 % 2 ^ 64) 1) (UpOne w s)
up_one w s =
    let b = both_exactly w s refl in
    let u = up_exactly (bit_and w s) 64 refl in
    exactly_as
    (λ e h. ⊎_elim
    (λ i.
    let o = u.so e i in
    let p = b.so o.1.number o.1.held in
    inr (o.0, (o.1.number, (p.0, p.1, o.1.next))))
    (λ i. inl ((one_exactly 0).so e i))
    h)
    (λ e h. ⊎_elim
    (λ i. inr ((one_exactly 0).has e i))
    (λ i.
    let d = i.1 in
    inl (u.has e (i.0, record { number = d.0; held = b.has d.0 (d.1.0, d.1.1); next = d.1.2 })))
    h)
    (either_exactly (bit_and w s * 2 % 2 ^ 64) 1 refl)
