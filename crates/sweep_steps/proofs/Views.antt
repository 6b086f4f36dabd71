-- What each look of push and stretch found, case by case. Assumes nothing.
use mathlib.Core.Path.{◌≡◌, refl}
use mathlib.Core.Bool.{Bool, true, false}
use Prim.Native.Nat.{ℕ, ◌+◌, ◌-◌, ◌≤◌, ◌<◌}
use lib.Dec.{eqb, ltb, leb}
use borrow.Author.Tests.{ltb-true, ltb-false, leb-true, leb-false, eqb-true, eqb-false}
use Rattle.bases.specs.Base.{Meets}
use Rattle.shapes.specs.Shape.{Block}
use Rattle.sweep_steps.specs.Share.{pick, shares}
use Rattle.sweep_steps.specs.Places.{offset}
use Rattle.sweep_steps.specs.Steps.{push_look, stretch_look}
use Rattle.sweep_steps.specs.declared.PushLook.{PushLook}
use Rattle.sweep_steps.specs.declared.StretchLook.{StretchLook}
use Rattle.sweep_steps.proofs.Share.{shares_tells}

pub data PushView (s t : Block) (o k : ℕ) : PushLook → Type 0 where
  fits : Meets s.base t.base → k ≤ t.upper - o → PushView s t o k (PushLook.Ends (offset (o + k)))
  fills : Meets s.base t.base → t.upper - o < k → PushView s t o k (PushLook.GoesOn (k - (t.upper - o)))
  blocked : (Meets s.base t.base → ⊥) → o < t.lower → PushView s t o k PushLook.Restarts
  skips : (Meets s.base t.base → ⊥) → t.lower ≤ o → PushView s t o k (PushLook.GoesOn k)

pub push_view : (s t : Block) (o k : ℕ) → PushView s t o k (push_look s t o k)
unfolding push_look
push_view s t o k = go (shares s.base t.base) refl (leb k (t.upper - o)) refl (ltb o t.lower) refl
  where
    go : (u : Bool) → shares s.base t.base ≡ u → (v : Bool) → leb k (t.upper - o) ≡ v → (w : Bool) → ltb o t.lower ≡ w
        → PushView s t o k (pick u (pick v (PushLook.Ends (offset (o + k))) (PushLook.GoesOn (k - (t.upper - o)))) (pick w PushLook.Restarts (PushLook.GoesOn k)))
    go true e true f w g = fits ((shares_tells s.base t.base).so e) (leb-true k (t.upper - o) f)
    go true e false f w g = fills ((shares_tells s.base t.base).so e) (leb-false k (t.upper - o) f)
    go false e v f true g = blocked ((shares_tells s.base t.base).not_so e) (ltb-true o t.lower g)
    go false e v f false g = skips ((shares_tells s.base t.base).not_so e) (ltb-false o t.lower g)

pub data StretchView (s t : Block) (o k : ℕ) : StretchLook → Type 0 where
  used : t.lower ≤ o → StretchView s t o k (StretchLook.GoesOn k)
  blocked : o < t.lower → (Meets s.base t.base → ⊥) → StretchView s t o k (StretchLook.Ends (offset o))
  short : o < t.lower → Meets s.base t.base → k < t.lower - o → StretchView s t o k (StretchLook.Ends (offset (o + k)))
  crosses : o < t.lower → Meets s.base t.base → t.lower - o ≤ k → StretchView s t o k (StretchLook.GoesOn (k - (t.lower - o)))

pub stretch_view : (s t : Block) (o k : ℕ) → StretchView s t o k (stretch_look s t o k)
unfolding stretch_look
stretch_view s t o k = go (leb t.lower o) refl (shares s.base t.base) refl (ltb k (t.lower - o)) refl
  where
    go : (u : Bool) → leb t.lower o ≡ u → (v : Bool) → shares s.base t.base ≡ v → (w : Bool) → ltb k (t.lower - o) ≡ w
        → StretchView s t o k (pick u (StretchLook.GoesOn k) (pick v (pick w (StretchLook.Ends (offset (o + k))) (StretchLook.GoesOn (k - (t.lower - o)))) (StretchLook.Ends (offset o))))
    go true e v f w g = used (leb-true t.lower o e)
    go false e true f true g = short (leb-false t.lower o e) ((shares_tells s.base t.base).so f) (ltb-true k (t.lower - o) g)
    go false e true f false g = crosses (leb-false t.lower o e) ((shares_tells s.base t.base).so f) (ltb-false k (t.lower - o) g)
    go false e false f w g = blocked (leb-false t.lower o e) ((shares_tells s.base t.base).not_so f)

-- a test on a number by cases
pub by_zero : {A : Type 0} (P : A → Type 0) (k : ℕ) {a b : A} → (k ≡ 0 → P a) → ((k ≡ 0 → ⊥) → P b) → P (pick (eqb k 0) a b)
by_zero P k {a} {b} f g = go (eqb k 0) refl
  where
    go : (t : Bool) → eqb k 0 ≡ t → P (pick t a b)
    go true e = f (eqb-true k 0 e)
    go false e = g (eqb-false k 0 e)
