-- The latest name of a boundary, and the places that stand at or before it. Assumes nothing.
use mathlib.Core.Path.{◌≡◌, refl, ap, ◌∙◌}
use mathlib.Core.Bool.{Bool, true, false}
use mathlib.Core.List.{List, [], ◌∷◌}
use mathlib.Core.Logic.{⊎_elim}
use Prim.Native.Nat.{ℕ, zero, suc, ◌+◌, ◌-◌, ◌≤◌, ◌<◌, min}
use native.Mathlib.Omega.{arith}
use lib.Dec.{ltb, leb}
use lib.ListN.{length, get_or, take, length-append}
use borrow.Author.Tests.{ltb-true, ltb-false, leb-true}
use Rattle.plain.proofs.Plain.{lt_or_le}
use Rattle.shapes.specs.Shape.{text_of}
use Rattle.sweep_steps.specs.Share.{pick}
use Rattle.sweep_steps.specs.Places.{at, number_of, offset_of}
use Rattle.sweep_steps.specs.Names.{Boundary, AtOrBefore, earlier_block, same_block, Name, within, past, Latest}
use Rattle.sweep_steps.specs.declared.Place.{Place}
use Rattle.sweep_steps.proofs.Laid.{sum, stand, stand_ahead, stand_least}
use Rattle.sweep_steps.proofs.Turned.{stand_into}

pub before_trans : {p q r : Place} → AtOrBefore p q → AtOrBefore q r → AtOrBefore p r
before_trans (earlier_block a) (earlier_block b) = earlier_block (omega arith)
before_trans (earlier_block a) (same_block b d) = earlier_block (omega arith)
before_trans (same_block a e) (earlier_block b) = earlier_block (omega arith)
before_trans (same_block a e) (same_block b d) = same_block (a ∙ b) (omega arith)

-- the latest place that stands at b, in blocks that count from i with their runs from behind the first p
top : ℕ → ℕ → List ℕ → ℕ → Place
top i p [] b = at i 0
top i p (n ∷ ns) b = pick (ltb b (p + n)) (at i (b - p)) (top (i + 1) (p + n) ns b)

top_block : (i p : ℕ) (ns : List ℕ) (b : ℕ) → i ≤ number_of (top i p ns b)
unfolding top
top_block i p [] b = omega arith
top_block i p (n ∷ ns) b = go (ltb b (p + n)) (top_block (i + 1) (p + n) ns b)
  where
    go : (t : Bool) → i + 1 ≤ number_of (top (i + 1) (p + n) ns b) → i ≤ number_of (pick t (at i (b - p)) (top (i + 1) (p + n) ns b))
    go true h = omega arith
    go false h = omega arith

-- a place that stands at or before b is at or before the latest that stands there
top_after : (i p : ℕ) (ns : List ℕ) (b : ℕ) (q : Place) → stand i p ns q ≤ b → b ≤ p + sum ns → AtOrBefore q (top i p ns b)
unfolding top stand sum
top_after i p [] b q h f = ⊎_elim (λ l. earlier_block l) (λ l. same_block (omega arith) (omega arith)) (lt_or_le (number_of q) i)
top_after i p (n ∷ ns) b q h f = go (ltb b (p + n)) refl (leb (number_of q) i) refl h (λ g. top_after (i + 1) (p + n) ns b q g (omega arith))
  where
    go : (t : Bool) → ltb b (p + n) ≡ t → (u : Bool) → leb (number_of q) i ≡ u → pick u (p + min (offset_of q) n) (stand (i + 1) (p + n) ns q) ≤ b
        → (stand (i + 1) (p + n) ns q ≤ b → AtOrBefore q (top (i + 1) (p + n) ns b)) → AtOrBefore q (pick t (at i (b - p)) (top (i + 1) (p + n) ns b))
    go true e true d g ih =
        let l = ltb-true b (p + n) e in let m = leb-true (number_of q) i d in
        ⊎_elim (λ k. earlier_block k) (λ k. same_block (omega arith) (omega arith)) (lt_or_le (number_of q) i)
    go true e false d g ih = let l = ltb-true b (p + n) e in let m = stand_least (i + 1) (p + n) ns q in absurd (omega arith)
    go false e true d g ih = let l = leb-true (number_of q) i d in let m = top_block (i + 1) (p + n) ns b in earlier_block (omega arith)
    go false e false d g ih = ih g

-- ---- of a filling's runs

unfoldable pub lengths : List (List ℕ) → List ℕ
lengths [] = []
lengths (r ∷ f) = length r ∷ lengths f

pub lengths_length : (f : List (List ℕ)) → length (lengths f) ≡ length f
unfolding lengths
lengths_length [] = refl
lengths_length (r ∷ f) = ap suc (lengths_length f)

pub lengths_at : (f : List (List ℕ)) (j : ℕ) → get_or (lengths f) j 0 ≡ length (get_or f j [])
unfolding lengths
lengths_at [] j = refl
lengths_at (r ∷ f) zero = refl
lengths_at (r ∷ f) (suc j) = lengths_at f j

pub lengths_sum : (f : List (List ℕ)) → sum (lengths f) ≡ length (text_of f)
unfolding lengths sum text_of
lengths_sum [] = refl
lengths_sum (r ∷ f) = let h = lengths_sum f in let l = length-append r (text_of f) in omega arith

pub lengths_take : (f : List (List ℕ)) (j : ℕ) → sum (take j (lengths f)) ≡ length (text_of (take j f))
unfolding lengths sum text_of
lengths_take f zero = refl
lengths_take [] (suc j) = refl
lengths_take (r ∷ f) (suc j) = let h = lengths_take f j in let l = length-append r (text_of (take j f)) in omega arith

-- a name of a boundary stands there
stand_past : (i p : ℕ) (ns : List ℕ) (q : Place) → number_of q ≡ i + length ns → stand i p ns q ≡ p + sum ns + offset_of q
unfolding stand sum
stand_past i p [] q h = omega arith
stand_past i p (n ∷ ns) q h = stand_ahead i p n ns q (omega arith) ∙ stand_past (i + 1) (p + n) ns q (omega arith) ∙ omega arith

name_stands : (g : List (List ℕ)) (b : Boundary) (q : Place) → Name g b q → stand 1 0 (lengths g) q ≤ b.characters
name_stands g b q (within j l e o c) =
    let m = lengths_length g in
    let n = lengths_at g j in
    let t = lengths_take g j in
    rw (stand_into (lengths g) j (omega arith) q e) (omega arith)
name_stands g b q (past e o c) =
    let m = lengths_length g in
    let t = lengths_sum g in
    rw (stand_past 1 0 (lengths g) q (omega arith)) (omega arith)

-- the latest place that stands at a boundary is a name of it
data Top (i p : ℕ) (g : List (List ℕ)) (b : ℕ) (q : Place) : Type 0 where
  amid : (j : ℕ) → j < length g → number_of q ≡ i + j → offset_of q ≤ length (get_or g j []) → b ≡ p + length (text_of (take j g)) + offset_of q → Top i p g b q
  beyond : number_of q ≡ i + length g → offset_of q ≡ 0 → b ≡ p + length (text_of g) → Top i p g b q

top_top : (i p : ℕ) (g : List (List ℕ)) (b : ℕ) → p ≤ b → b ≤ p + length (text_of g) → Top i p g b (top i p (lengths g) b)
unfolding top lengths text_of
top_top i p [] b l h = beyond (omega arith) refl (omega arith)
top_top i p (r ∷ g) b l h = go (ltb b (p + length r)) refl (let e = length-append r (text_of g) in λ m. top_top (i + 1) (p + length r) g b m (omega arith))
  where
    onward : {q : Place} → Top (i + 1) (p + length r) g b q → Top i p (r ∷ g) b q
    onward (amid j a d o c) = let e = length-append r (text_of (take j g)) in amid (suc j) (omega arith) (omega arith) o (omega arith)
    onward (beyond a o c) = let e = length-append r (text_of g) in beyond (omega arith) o (omega arith)

    go : (t : Bool) → ltb b (p + length r) ≡ t → (p + length r ≤ b → Top (i + 1) (p + length r) g b (top (i + 1) (p + length r) (lengths g) b))
        → Top i p (r ∷ g) b (pick t (at i (b - p)) (top (i + 1) (p + length r) (lengths g) b))
    go true e ih = let m = ltb-true b (p + length r) e in amid 0 (omega arith) (omega arith) (omega arith) (omega arith)
    go false e ih = onward (ih (ltb-false b (p + length r) e))

module _ (g : List (List ℕ)) (b : Boundary) (inside : b.characters ≤ length (text_of g)) where
  highest : Place
  highest = top 1 0 (lengths g) b.characters

  highest_name : Name g b highest
  unfolding highest
  highest_name = go (top_top 1 0 g b.characters (omega arith) (omega arith))
    where
      go : {q : Place} → Top 1 0 g b.characters q → Name g b q
      go (amid j a d o c) = within j a (omega arith) o (omega arith)
      go (beyond a o c) = past (omega arith) o (omega arith)

  highest_after : (q : Place) → stand 1 0 (lengths g) q ≤ b.characters → AtOrBefore q highest
  unfolding highest
  highest_after q h = let t = lengths_sum g in top_after 1 0 (lengths g) b.characters q h (omega arith)

  -- each boundary of the text has a latest name
  pub latest_name : (q : Place) × Latest g b q
  latest_name = (highest, record { name = highest_name; latest = λ r n. highest_after r (name_stands g b r n) })

  -- and a place that stands at or before the boundary is at or before it
  pub stand_latest : (p q : Place) → stand 1 0 (lengths g) p ≤ b.characters → Latest g b q → AtOrBefore p q
  stand_latest p q h l = before_trans (highest_after p h) (l.latest highest highest_name)
