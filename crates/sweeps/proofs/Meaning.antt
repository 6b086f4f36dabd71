-- What the sweep hands back means what document 01 says. Assumes nothing.
use mathlib.Core.Path.{◌≡◌, refl, sym, ◌∙◌, subst}
use mathlib.Core.List.{List, [], ◌∷◌, ◌++◌}
use Prim.Native.Nat.{ℕ, zero, suc, ◌+◌, ◌*◌, ◌≤◌, ◌<◌}
use native.Mathlib.Omega.{arith}
use lib.ListN.{length, get_or, drop}
use Rattle.shapes.specs.Shape.{Block}
use Rattle.sweep_steps.specs.Places.{at}
use Rattle.sweep_steps.specs.Names.{AtOrBefore}
use Rattle.sweep_steps.specs.Steps.{Found, places, cannot, looks_of, sweep_of, numbers}
use Rattle.sweep_steps.specs.declared.Place.{Place}
use Rattle.sweep_steps.proofs.Looks.{looks_bounded}
use Rattle.sweep_steps.proofs.Sweep.{cannot_none, places_many, places_not_late}
use Rattle.sweep_passes.specs.Read.{swept_of, output_of}
use Rattle.sweeps.specs.Meaning.{Means}

-- a place in the output
numbers_at_lem : (qs : List Place) (rest : List ℕ) (i : ℕ) → i < length qs
    → get_or qs i (at 1 0) ≡ at (get_or (numbers qs ++ rest) (2 * i) 0) (get_or (numbers qs ++ rest) (2 * i + 1) 0)
unfolding numbers
numbers_at_lem [] rest i h = absurd (omega arith)
numbers_at_lem (q ∷ qs) rest zero h = refl
numbers_at_lem (q ∷ qs) rest (suc i) h =
    let even : 2 * suc i ≡ suc (suc (2 * i)) = omega arith in
    let odd : 2 * suc i + 1 ≡ suc (suc (2 * i + 1)) = omega arith in
    rw (odd, even) (numbers_at_lem qs rest i (omega arith))

pub means : (x y : List Block) (out : List ℕ) → Means x y (swept_of (sweep_of x y)) (output_of (sweep_of x y) out)
means x y out = go (sweep_of x y) refl
  where
    go : (r : Found) → sweep_of x y ≡ r → Means x y (swept_of r) (output_of r out)
    go (places qs l) e =
        record {
          none = λ k d. absurd (let z : ◌≡◌ {A = ℕ} 0 1 = cc in omega arith);
          not_late = λ k d f g fx gy same i h q last.
              let many = places_many x y qs l e in
              subst (λ (p : Place). AtOrBefore p q) (numbers_at_lem qs (drop (length (numbers qs)) out) i (omega arith)) (places_not_late x y qs l e f g fx gy same i h q last);
          few_places = λ k d. let z : l ≡ k = cc in let b = subst (λ (r : Found). looks_of r ≤ 2 * (length x + length y)) e (looks_bounded x y) in omega arith;
          few_cannot = λ k d. absurd (let z : ◌≡◌ {A = ℕ} 0 1 = cc in omega arith);
        }
    go (cannot l) e =
        record {
          none = λ k d t a b. cannot_none x y l e a.runs b.runs a.filling b.filling (a.joined ∙ sym b.joined);
          not_late = λ k d. absurd (let z : ◌≡◌ {A = ℕ} 0 1 = cc in omega arith);
          few_places = λ k d. absurd (let z : ◌≡◌ {A = ℕ} 0 1 = cc in omega arith);
          few_cannot = λ k d. let z : l ≡ k = cc in let b = subst (λ (r : Found). looks_of r ≤ 2 * (length x + length y)) e (looks_bounded x y) in omega arith;
        }
