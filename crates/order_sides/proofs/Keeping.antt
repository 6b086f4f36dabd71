-- Texts on the right side: joined and cut, and where the rest of a shape has one. Assumes nothing.
use mathlib.Core.Path.{◌≡◌, refl, sym, ap, subst}
use mathlib.Core.List.{List, [], ◌∷◌, ◌++◌}
use Prim.Native.Nat.{ℕ, zero, suc, ◌+◌, ◌-◌, ◌≤◌, ◌<◌}
use mathlib.Core.Logic.{⊎_elim}
use native.Mathlib.Omega.{arith}
use Rattle.plain.proofs.Plain.{lt_or_le}
use Rattle.bases.specs.Base.{Holds}
use Rattle.shapes.specs.Shape.{Block}
use Rattle.walks.specs.Walk.{Walk, here, skip, step, Bounded}
use Rattle.walks.proofs.Walks.{walk_to, split_char, path_of, below, below_character, forwards}
use Rattle.order_sides.specs.Guide.{Guide, KeepsTo, along, Clear, Free, AtEnd}

-- a text that matches T, and then a rest on the right side
pub keeps_append : {G : Guide} {s q : ℕ} {t u : List ℕ} → Walk (along G) s q t → KeepsTo G s u → KeepsTo G q (t ++ u)
keeps_append {G} {u = u} (here e) k = subst (λ (z : ℕ). KeepsTo G z u) (sym e) k
keeps_append (skip l w) k = absurd (omega arith)
keeps_append (step h w) k = KeepsTo.same h (keeps_append w k)

-- a text that has a first part t: t matches T, or is on the right side already
pub data CutAt (G : Guide) (q : ℕ) (t u : List ℕ) : Type 0 where
  whole : (s : ℕ) → Walk (along G) s q t → KeepsTo G s u → CutAt G q t u
  early : (a b : List ℕ) (c s : ℕ) → t ≡ a ++ (c ∷ b) → Walk (along G) s q a → Holds (G.apart s) c → CutAt G q t u

one_more : {G : Guide} {q c : ℕ} {t u : List ℕ} → Holds (G.same q) c → CutAt G (q + 1) t u → CutAt G q (c ∷ t) u
one_more h (whole s w k) = whole s (step h w) k
one_more {c = c} h (early a b d s e w g) = early (c ∷ a) b d s (ap (λ (l : List ℕ). c ∷ l) e) (step h w) g

pub cut : {G : Guide} {q : ℕ} (t u : List ℕ) → KeepsTo G q (t ++ u) → CutAt G q t u
cut {q = q} [] u k = whole q (here refl) k
cut {q = q} (c ∷ t) u (KeepsTo.apart h) = early [] t c q refl (here refl) h
cut {G = G} {q = q} (c ∷ t) u (Rattle.order_sides.specs.Guide.same h k) = one_more h (cut {q = q + 1} t u k)

pub not_last : {G : Guide} {W : ℕ} → AtEnd G W → (q c : ℕ) → q ≤ W → Holds (G.same q) c → q < W
not_last {G} {W} g q c h k = ⊎_elim (λ l. l) (λ l. absurd (g.no_more c (subst (λ (z : ℕ). Holds (G.same z) c) (let e : q ≡ W = omega arith in e) k))) (lt_or_le q W)

-- the states of a text that matches stay up to where T ends
pub state_within : {G : Guide} {W s q : ℕ} {t : List ℕ} → AtEnd G W → Walk (along G) s q t → q ≤ W → s ≤ W
state_within g (here e) h = omega arith
state_within g (skip l w) h = absurd (omega arith)
state_within g (step {p = q} {c = c} k w) h = let n = not_last g q c h k in state_within g w (omega arith)

-- ---- free positions

pub free_later : {X : ℕ → Block} {G : Guide} {i j : ℕ} → i ≤ j → Free X G i → Free X G j
free_later h f = let b = f.before in record { at = f.at; state = f.state; before = omega arith; reached = f.reached; parts = f.parts }

-- a text that is on the right side before it reaches position i
pub early_free : {X : ℕ → Block} {G : Guide} {i s : ℕ} {t : List ℕ} (a b : List ℕ) (c : ℕ) → Walk X i 0 t → t ≡ a ++ (c ∷ b) → Walk (along G) s 0 a → Holds (G.apart s) c → Free X G i
early_free {X} {i = i} {s = s} a b c w e v h =
    let m = split_char a b c (subst (Walk X i 0) e w) in
    let f = forwards m.3 in
    record { at = m.0; state = s; before = omega arith; reached = path_of m.1 v; parts = record { shared = c; first = m.2; second = h } }

-- ---- rests

pub clear_of : {X : ℕ → Block} {G : Guide} {U i q : ℕ} {t : List ℕ} → Walk X U i t → KeepsTo G q t → Clear X G U i q
clear_of (here e) (KeepsTo.ends n) = Clear.end e n
clear_of (skip l w) k = Clear.skip l (clear_of w k)
clear_of (step {c = c} h w) (KeepsTo.apart g) = Clear.apart (record { shared = c; first = h; second = g })
clear_of (step {c = c} h w) (KeepsTo.same g k) = Clear.same (record { shared = c; first = h; second = g }) (clear_of w k)

-- each position below U has a character to take
module _ {X : ℕ → Block} {U : ℕ} (bd : Bounded X U) (full : (i : ℕ) → i < U → (c : ℕ) × Holds (X i).base c) where
  pub advance : (n i : ℕ) → i + n ≤ U → (t : List ℕ) × Walk X (i + n) i t
  advance zero i h = ([], here {p = i} (omega arith))
  advance (suc n) i h =
      let f = full i (omega arith) in
      let r = advance n (i + 1) (omega arith) in
      (f.0 ∷ r.0, step f.1 (walk_to (let e : i + 1 + n ≡ i + suc n = omega arith in e) r.1))

  pub advance_to : (i j : ℕ) → i ≤ j → j ≤ U → (t : List ℕ) × Walk X j i t
  advance_to i j h g = let r = advance (j - i) i (omega arith) in (r.0, walk_to (let e : i + (j - i) ≡ j = omega arith in e) r.1)

  pub text_clear : {G : Guide} {i q : ℕ} → Clear X G U i q → i ≤ U → (t : List ℕ) × Walk X U i t × KeepsTo G q t
  text_clear (Clear.end e n) h = ([], here e, KeepsTo.ends n)
  text_clear {i = i} (Clear.skip l k) h = let r = text_clear k (bd.within i (below bd i h l)) in (r.0, skip l r.1, r.2)
  text_clear {i = i} (Clear.apart m) h =
      let g = below_character bd i m.shared h m.first in
      let r = advance_to (i + 1) U (omega arith) (omega arith) in
      (m.shared ∷ r.0, step m.first r.1, KeepsTo.apart m.second)
  text_clear {i = i} (Clear.same m k) h =
      let g = below_character bd i m.shared h m.first in
      let r = text_clear k (omega arith) in
      (m.shared ∷ r.0, step m.first r.1, KeepsTo.same m.second r.2)
