-- The greatest number of a word, and what a set leaves of a base. Assumes nothing.
use mathlib.Core.Path.{◌≡◌, sym, ap, ◌∙◌, subst}
use mathlib.Core.Logic.{⊎_elim}
use Prim.Native.Nat.{ℕ, suc, ◌+◌, ◌-◌, ◌/◌, ◌%◌, ◌^◌, ◌≤◌, ◌<◌}
use native.Mathlib.Omega.{arith}
use borrow.Author.Tests.{eqb-true, eqb-false}
use lib.Bits.{bit_and}
use lib.Dec.{eqb}
use lib.Pow.{shr-shr}
use Rattle.bases.specs.Base.{Holds, Empty, Greatest}
use Rattle.plain.specs.Tells.{Tells}
use Rattle.bases.proofs.Laws.{halved, none_in_zero, empty_zero}
use Rattle.plain.proofs.Plain.{lt_or_le}
use Rattle.bases.proofs.Sets.{some_held}
use Rattle.sets.specs.Set.{Exactly}
use Rattle.sets.proofs.Exact.{exactly_as, both_exactly, ones_exactly, held_under}
use Rattle.find_ways.specs.Ways.{GreatestBelow, Outside}

-- bit d of a number moved down by r
moved : (w r d : ℕ) → w / 2 ^ r / 2 ^ d % 2 ≡ w / 2 ^ (r + d) % 2
moved w r d = ap (λ (x : ℕ). x % 2) (shr-shr w r d)

one_above : (w r d : ℕ) → w / 2 ^ r ≡ 1 → Holds w d → d ≤ r
unfolding Holds
one_above w r d e h = ⊎_elim
    (λ l.
    let back : d ≡ r + (d - r) = omega arith in
    let b : 1 / 2 ^ (d - r) % 2 ≡ 1 = ap (λ (x : ℕ). x / 2 ^ (d - r) % 2) (sym e) ∙ moved w r (d - r) ∙ ap (λ (x : ℕ). w / 2 ^ x % 2) (sym back) ∙ h in
    let z = held_under 1 {n = 1} (omega arith) (d - r) b in
    omega arith)
    (λ l. l)
    (lt_or_le r d)

-- moved down by its greatest number it is 1
top_one : (w r : ℕ) → Greatest w r → w / 2 ^ r ≡ 1
unfolding Holds Empty
top_one w r g =
    let odd : w / 2 ^ r % 2 ≡ 1 = g.held in
    let none : w / 2 ^ r / 2 ≡ 0 = empty_zero (w / 2 ^ r / 2) (λ d h.
    let b = g.greatest (r + suc d) (sym (moved w r (suc d)) ∙ halved (w / 2 ^ r) d ∙ h) in omega arith) in
    omega arith

pub tells_top : (w r : ℕ) → Tells (eqb (w / 2 ^ r) 1) (Greatest w r)
unfolding Holds
tells_top w r = record {
  so = λ e. let one = eqb-true (w / 2 ^ r) 1 e in record { held = ap (λ (x : ℕ). x % 2) one; greatest = λ d. one_above w r d one };
  not_so = λ e g. eqb-false (w / 2 ^ r) 1 e (top_one w r g);
}

-- the greatest of the numbers below q
pub below_exactly : (w q : ℕ) {x : ℕ} → x ≡ bit_and w (2 ^ q - 1) → Exactly x (λ e. Holds w e × (e < q))
below_exactly w q e = exactly_as (λ d h. (h.0, (ones_exactly q).so d h.1)) (λ d h. (h.0, (ones_exactly q).has d h.1)) (both_exactly w (2 ^ q - 1) e)

pub greatest_below : {w q x r : ℕ} → Exactly x (λ e. Holds w e × (e < q)) → Greatest x r → GreatestBelow w q r
greatest_below {w} {q} {x} {r} a g = let h = a.so r g.held in record { held = h.0; below = h.1; greatest = λ d b l. g.greatest d (a.has d (b, l)) }

-- what is left of the base is not empty
pub outside_some : {base s x : ℕ} → Exactly x (λ e. Holds base e × (Holds s e → ⊥)) → (Empty x → ⊥) → Outside base s
unfolding Empty
outside_some {base} {s} {x} a n =
    let c = some_held x (λ z. n (λ e h. none_in_zero e (subst (λ (y : ℕ). Holds y e) z h))) in
    let p = a.so c.0 c.1 in
    record { char = c.0; held = p.0; not_in = p.1 }

pub some_outside : {base s x : ℕ} → Exactly x (λ e. Holds base e × (Holds s e → ⊥)) → Empty x → Outside base s → ⊥
unfolding Empty
some_outside a n o = n o.char (a.has o.char (o.held, o.not_in))
