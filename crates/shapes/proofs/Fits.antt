-- Fitting, block by block: the first block takes some characters, the others the rest. Assumes nothing.
use mathlib.Core.Path.{◌≡◌, refl, sym, ap, ◌∙◌, subst}
use mathlib.Core.List.{List, [], ◌∷◌, ◌++◌}
use Prim.Native.Nat.{ℕ, ◌-◌, ◌≤◌}
use native.Mathlib.Omega.{arith}
use lib.ListN.{length, take, drop, length-append, take-append-drop}
use lib.Seq.{take-append_seam, drop-append_seam, length-take-le}
use Rattle.bases.specs.Base.{Holds}
use Rattle.plain.specs.All.{All}
use Rattle.plain.specs.All.All.{none, more}
use Rattle.plain.proofs.All.{all_append, all_map}
use Rattle.shapes.specs.Shape.{Block, Run, Filling, Fits, text_of, total}
use Rattle.shapes.specs.Shape.Filling.{done, fill}

pub fits_none : Fits [] []
unfolding text_of
fits_none = record { runs = []; filling = done; joined = refl }

-- the first block takes `count` characters of t, the blocks s the rest
pub record Taken (b : Block) (s : List Block) (t : List ℕ) : Type 0 where
  pub count : ℕ
  pub within : count ≤ length t
  pub enough : b.lower ≤ count
  pub bounded : count ≤ b.upper
  pub held : All (Holds b.base) (take count t)
  pub rest : Fits s (drop count t)

pub fits_of_taken : {b : Block} {s : List Block} (t : List ℕ) → Taken b s t → Fits (b ∷ s) t
unfolding text_of
fits_of_taken {b} t k =
    let e = length-take-le k.count t k.within in
    let enough = k.enough in
    let bounded = k.bounded in
    record {
      runs = take k.count t ∷ k.rest.runs;
      filling = fill {b = b} (record { held = k.held; enough = omega arith; bounded = omega arith }) k.rest.filling;
      joined = ap (λ (l : List ℕ). take k.count t ++ l) k.rest.joined ∙ take-append-drop k.count t;
    }

taken_run : {b : Block} {s : List Block} (r : List ℕ) (f : List (List ℕ)) → Run b r → Filling s f → Taken b s (r ++ text_of f)
taken_run {b} {s} r f run rest =
    let seam = take-append_seam r (text_of f) in
    let enough = run.enough in
    let bounded = run.bounded in
    let long = length-append r (text_of f) in
    record {
      count = length r;
      within = omega arith;
      enough = enough;
      bounded = bounded;
      held = subst (All (Holds b.base)) (sym seam) run.held;
      rest = subst (Fits s) (sym (drop-append_seam r (text_of f))) (record { runs = f; filling = rest; joined = refl });
    }

taken_filling : {b : Block} {s : List Block} {f : List (List ℕ)} → Filling (b ∷ s) f → Taken b s (text_of f)
unfolding text_of
taken_filling (fill {r = r} {f = f} run rest) = taken_run r f run rest

pub taken_of_fits : {b : Block} {s : List Block} {t : List ℕ} → Fits (b ∷ s) t → Taken b s t
taken_of_fits {b} {s} h = subst (Taken b s) h.joined (taken_filling h.filling)

no_text : {f : List (List ℕ)} → Filling [] f → text_of f ≡ []
unfolding text_of
no_text done = refl

pub none_fits : {t : List ℕ} → Fits [] t → t ≡ []
none_fits h = sym h.joined ∙ no_text h.filling

-- no text that fits is longer than the uppers added
pub filling_length : {s : List Block} {f : List (List ℕ)} → Filling s f → length (text_of f) ≤ total s
unfolding text_of total
filling_length done = omega arith
filling_length (fill {r = r} {f = f} run rest) =
    let h = filling_length rest in
    let g = run.bounded in
    let e = length-append r (text_of f) in
    omega arith

pub fits_length : {s : List Block} {t : List ℕ} → Fits s t → length t ≤ total s
fits_length {s} h = subst (λ (t : List ℕ). length t ≤ total s) h.joined (filling_length h.filling)

-- a text has no character that no base holds
pub not_in_text : (c : ℕ) {s : List Block} {f : List (List ℕ)} → All (λ (b : Block). Holds b.base c → ⊥) s → Filling s f → All (λ (d : ℕ). d ≡ c → ⊥) (text_of f)
unfolding text_of
not_in_text c none done = none
not_in_text c (more {a = b} n ns) (fill run rest) = all_append (all_map (λ d h e. n (subst (Holds b.base) e h)) run.held) (not_in_text c ns rest)
