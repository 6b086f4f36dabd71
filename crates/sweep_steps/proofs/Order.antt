-- The order of places that the code derives is that of the definition. Assumes nothing.
use mathlib.Core.Path.{◌≡◌}
use mathlib.Core.Logic.{⊎_elim}
use Prim.Native.Nat.{◌≤◌, ◌<◌}
use native.Mathlib.Omega.{arith}
use borrow.Author.Tests.{eq-eqb, ne_eqb, lt-ltb, le-ltb}
use Rattle.std.specs.Ordering.{partial_lt}
use Rattle.plain.proofs.Plain.{lt_or_le}
use Rattle.sweep_steps.specs.Places.{number_of, offset_of, before}
use Rattle.sweep_steps.specs.declared.Place.{Place}
use Rattle.sweep_steps.specs.contracts.PlacePartialOrd.TheImpl.{partial_cmp-value}

-- by block, then by offset
pub in_order : (p q : Place) → partial_lt partial_cmp-value.it p q ≡ before p q
unfolding before
in_order p q = ⊎_elim
    (λ (l : number_of p < number_of q). simp (lt-ltb _ _ l, ne_eqb (number_of p) (number_of q) (λ e. omega arith)))
    (λ (h : number_of q ≤ number_of p). ⊎_elim
    (λ (l : number_of q < number_of p). simp (le-ltb _ _ h, ne_eqb (number_of p) (number_of q) (λ e. omega arith)))
    (λ (g : number_of p ≤ number_of q). let e : number_of p ≡ number_of q = omega arith in ⊎_elim
    (λ (m : offset_of p < offset_of q). simp (le-ltb _ _ h, eq-eqb _ _ e, lt-ltb _ _ m))
    (λ (m : offset_of q ≤ offset_of p). ⊎_elim
    (λ (n : offset_of q < offset_of p). simp (le-ltb _ _ h, eq-eqb _ _ e, le-ltb _ _ m, ne_eqb (offset_of p) (offset_of q) (λ f. omega arith)))
    (λ (n : offset_of p ≤ offset_of q). let f : offset_of p ≡ offset_of q = omega arith in simp (le-ltb _ _ h, eq-eqb _ _ e, le-ltb _ _ m, eq-eqb _ _ f))
    (lt_or_le (offset_of q) (offset_of p)))
    (lt_or_le (offset_of p) (offset_of q)))
    (lt_or_le (number_of q) (number_of p)))
    (lt_or_le (number_of p) (number_of q))
