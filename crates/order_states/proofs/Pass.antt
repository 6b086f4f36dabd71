-- The states of an order's second pass, one more at a time. Assumes nothing.
use mathlib.Core.Path.{◌≡◌, sym, subst}
use mathlib.Core.List.{List}
use Prim.Native.Nat.{ℕ, ◌+◌, ◌-◌, ◌≤◌, ◌<◌}
use native.Mathlib.Omega.{arith}
use Rattle.sets.specs.declared.Set.{Set}
use Rattle.sets.specs.Set.{set_of}
use Rattle.sets.proofs.Exact.{exactly_at}
use Rattle.shapes.specs.Shape.{Block}
use Rattle.rows.specs.Row.{row_in}
use Rattle.order_sides.specs.Guide.{Guide}
use Rattle.order_rows.specs.Rows.{Right, PassAlong}
use Rattle.order_rows.proofs.Passes.{pass_none, pass_join}
use Rattle.order_states.specs.declared.Sorts.{Sorts}
use Rattle.order_states.specs.declared.Gathered.{Gathered}
use Rattle.order_states.specs.States.{PassOf, Joins, OneState, States}

pub joins_pass : {g e r : Gathered} → Joins g e r → {X : ℕ → Block} {G : Guide} {U lo mid hi : ℕ} → lo ≤ mid → mid ≤ hi → PassOf X G U mid hi g → PassOf X G U lo mid e → PassOf X G U lo hi r
joins_pass {g} {e} {r} j {X} {G} {U} {lo} {mid} {hi} a b x y =
    let p = pass_join (set_of g.quit) (set_of g.moved) (set_of g.parted) (set_of e.quit) (set_of e.moved) (set_of e.parted) a b x y j.quit j.moved j.parted in
    subst (λ (c : ℕ). PassAlong X G U lo hi c (set_of r.quit) (set_of r.moved) (set_of r.parted)) (sym j.clear) p

module _ {Z E : ℕ → ℕ} {k : ℕ} {rows : List Set} {s : Sorts} where
  pub states_none : {hi : ℕ} (c : ℕ) {g : Gathered} → set_of g.clear ≡ c → set_of g.quit ≡ 0 → set_of g.moved ≡ 0 → set_of g.parted ≡ 0 → States Z E k rows s hi hi c g
  states_none {hi} c e a m p = record { holds = λ X G U z f r o. pass_none (subst (Right X G U hi) (sym e) o) a m p }

  pub states_more : {q n hi c row : ℕ} {g e r : Gathered} → n ≡ q - 1 → 0 < q → q ≤ hi → States Z E k rows s q hi c g → OneState Z E k s row (set_of g.clear) e → row ≡ row_in rows n
      → Joins g e r → States Z E k rows s n hi c r
  states_more {q = q} {n = n} {hi = hi} {g = g} {e = e} {r = r} d l w t o v j = record {
    holds = λ X G U z f y h.
        let at : q ≡ n + 1 = omega arith in
        let p : PassOf X G U q hi g = t.holds X G U z (λ i a b. f i (omega arith) b) (λ i a b. y i (omega arith) b) h in
        let one : PassOf X G U n (n + 1) e = o.holds X G U n z (f n (omega arith) (omega arith)) (exactly_at v (y n (omega arith) (omega arith))) (subst (λ (i : ℕ). Right X G U i (set_of g.clear)) at p.rests) in
        joins_pass j (omega arith) w p (subst (λ (i : ℕ). PassOf X G U n i e) (sym at) one);
  }

  pub states_all : {lo q hi c c' : ℕ} {g : Gathered} → q ≡ lo → c ≡ c' → States Z E k rows s q hi c g → States Z E k rows s lo hi c' g
  states_all {q = q} {hi = hi} {c' = c'} {g = g} e d t = subst (λ (i : ℕ). States Z E k rows s i hi c' g) e (subst (λ (i : ℕ). States Z E k rows s q hi i g) d t)
