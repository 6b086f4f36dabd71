-- The whole sweep from its two passes. Assumes nothing.
use mathlib.Core.Path.{◌≡◌, refl, sym, ap, ap₂, ◌∙◌, subst}
use mathlib.Core.Bool.{true, false}
use mathlib.Core.List.{List, [], ◌∷◌, ◌++◌}
use Prim.Native.Nat.{ℕ, suc, ◌+◌, ◌*◌, ◌≤◌}
use native.Mathlib.Omega.{arith}
use lib.ListN.{length, get_or, take, drop}
use lib.Seq.{take_at}
use borrow.Author.Tests.{eq-eqb, ne_eqb}
use Rattle.answers.specs.declared.Swept.{Swept}
use Rattle.shapes.specs.Shape.{Block}
use Rattle.sweep_steps.specs.Places.{at, is_start}
use Rattle.sweep_steps.specs.Steps.{Held, stretches, Found, places, cannot, looks_of, looked, pushes, first_place, sweep_of, numbers}
use Rattle.sweep_steps.specs.declared.Place.{Place}
use Rattle.sweep_steps.proofs.Looks.{looks_bounded}
use Rattle.sweep_steps.proofs.Sweep.{places_held}
use Rattle.sweep_passes.specs.Read.{held_in, swept_of}
use Rattle.sweeps.specs.Kept.{Starts}

held_first : (x : List Block) (kept : List ℕ) → 1 ≤ length x → first_place (held_in x kept) ≡ at (get_or kept 0 0) (get_or kept 1 0)
unfolding held_in
held_first [] kept h = absurd (omega arith)
held_first (b ∷ x) kept h = refl

held_length : (x : List Block) (kept : List ℕ) → length (held_in x kept) ≡ length x
unfolding held_in
held_length [] kept = refl
held_length (b ∷ x) kept = ap suc (held_length x (drop 2 kept))

numbers_length : (qs : List Place) → length (numbers qs) ≡ 2 * length qs
unfolding numbers
numbers_length [] = refl
numbers_length (q ∷ qs) = let h = numbers_length qs in omega arith

-- what both passes hand back, once it is known that there are no places
pub found_none : (l n : ℕ) (kept : List ℕ) (f : Found) → cannot l ≡ f → (Swept.Cannot l ≡ swept_of f) × Starts f n kept
found_none l n kept f e = (ap swept_of e, record { stand = λ qs k h. absurd (not_places (e ∙ h)) })
  where
    not_places : {qs : List Place} {k : ℕ} → cannot l ≡ places qs k → ⊥
    not_places e = let z : ◌≡◌ {A = ℕ} 0 1 = cc in omega arith

module _ (x y : List Block) (kept : List ℕ) (looks : ℕ) (some : 1 ≤ length x) (few : length x ≤ 32) (low : length y ≤ 32)
    (counted : looks ≡ (stretches x y).looks) (held : held_in x kept ≡ (stretches x y).held) where
  first : first_place (stretches x y).held ≡ at (get_or kept 0 0) (get_or kept 1 0)
  first = ap first_place (sym held) ∙ held_first x kept some

  off_start : is_start (at (get_or kept 0 0) (get_or kept 1 0)) ≡ false → cannot looks ≡ sweep_of x y
  unfolding sweep_of
  off_start e = simp (first, e) (ap cannot counted)

  -- the first block's place is not (1, 0)
  pub other_block : (get_or kept 0 0 ≡ 1 → ⊥) → cannot looks ≡ sweep_of x y
  other_block n = off_start (simp (ne_eqb (get_or kept 0 0) 1 n))

  pub other_offset : get_or kept 0 0 ≡ 1 → (get_or kept 1 0 ≡ 0 → ⊥) → cannot looks ≡ sweep_of x y
  other_offset e n = off_start (simp (eq-eqb (get_or kept 0 0) 1 e, ne_eqb (get_or kept 1 0) 0 n))

  module _ (b : get_or kept 0 0 ≡ 1) (o : get_or kept 1 0 ≡ 0) where
    on_start : looked looks (pushes y (held_in x kept) (at 1 0)) ≡ sweep_of x y
    unfolding sweep_of
    on_start =
        let e : is_start (at (get_or kept 0 0) (get_or kept 1 0)) ≡ true = simp (eq-eqb (get_or kept 0 0) 1 b, eq-eqb (get_or kept 1 0) 0 o) in
        simp (first, e) (ap₂ (λ (l : ℕ) (h : List Held). looked l (pushes y h (at 1 0))) counted held)

    module _ (p : Swept) (ep : p ≡ swept_of (pushes y (held_in x kept) (at 1 0))) (more : ℕ) where
      pub swept_stuck : p ≡ Swept.Cannot more → cannot (looks + more) ≡ sweep_of x y
      swept_stuck e = go (pushes y (held_in x kept) (at 1 0)) (sym ep ∙ e) on_start
        where
          go : (r : Found) → swept_of r ≡ Swept.Cannot more → looked looks r ≡ sweep_of x y → cannot (looks + more) ≡ sweep_of x y
          go (places qs l) e f = absurd (let z : ◌≡◌ {A = ℕ} 0 1 = cc in omega arith)
          go (cannot l) e f = let z : l ≡ more = cc in subst (λ (m : ℕ). cannot (looks + m) ≡ sweep_of x y) z f

      pub swept_through : p ≡ Swept.Places more → (qs : List Place) × (pushes y (held_in x kept) (at 1 0) ≡ places qs more) × (places qs (looks + more) ≡ sweep_of x y)
      swept_through e = go (pushes y (held_in x kept) (at 1 0)) refl (sym ep ∙ e) on_start
        where
          go : (r : Found) → pushes y (held_in x kept) (at 1 0) ≡ r → swept_of r ≡ Swept.Places more → looked looks r ≡ sweep_of x y
              → (qs : List Place) × (pushes y (held_in x kept) (at 1 0) ≡ places qs more) × (places qs (looks + more) ≡ sweep_of x y)
          go (places qs l) h e f = let z : l ≡ more = cc in (qs, h ∙ ap (places qs) z, subst (λ (m : ℕ). places qs (looks + m) ≡ sweep_of x y) z f)
          go (cannot l) h e f = absurd (let z : ◌≡◌ {A = ℕ} 0 1 = cc in omega arith)

      pub stuck_fits : p ≡ Swept.Cannot more → looks + more ≤ 128
      stuck_fits e = let h : looks + more ≤ 2 * (length x + length y) = subst (λ (r : Found). looks_of r ≤ 2 * (length x + length y)) (sym (swept_stuck e)) (looks_bounded x y) in omega arith

      pub through_fits : p ≡ Swept.Places more → looks + more ≤ 128
      through_fits e =
          let h : looks + more ≤ 2 * (length x + length y) = subst (λ (r : Found). looks_of r ≤ 2 * (length x + length y)) (sym (swept_through e).2) (looks_bounded x y) in
          omega arith

      -- the places stand where they were kept
      pub swept_places : (e : p ≡ Swept.Places more) (kept' : List ℕ) (n : ℕ) → n ≡ length x
          → ((qs : List Place) (l : ℕ) → pushes y (held_in x kept) (at 1 0) ≡ places qs l → kept' ≡ numbers qs ++ drop (2 * n) kept)
          → (Swept.Places (looks + more) ≡ swept_of (sweep_of x y)) × Starts (sweep_of x y) (2 * n) kept'
      swept_places e kept' n en starts =
          let t = swept_through e in
          let qs = t.0 in
          let many : length (numbers qs) ≡ 2 * n
          = numbers_length qs ∙ (let a = places_held y (held_in x kept) (at 1 0) qs more t.1 in let c = held_length x kept in let g : 2 * length qs ≡ 2 * n = omega arith in g) in
          let front : take (2 * n) kept' ≡ numbers qs = ap (take (2 * n)) (starts qs more t.1) ∙ take_at (numbers qs) (drop (2 * n) kept) (2 * n) many in
          (ap swept_of t.2, record { stand = λ rs k h. front ∙ ap numbers (same_places (t.2 ∙ h)) })
        where
          same_places : {qs rs : List Place} {k l : ℕ} → places qs k ≡ places rs l → qs ≡ rs
          same_places e = cc
