-- What one look comes to, by the tests that the code makes. Assumes nothing.
use mathlib.Core.Path.{◌≡◌}
use mathlib.Core.Bool.{true, false}
use Prim.Native.Nat.{ℕ, ◌+◌, ◌-◌, ◌≤◌, ◌<◌}
use borrow.Author.Tests.{lt-ltb, le-ltb, le-leb, lt-leb}
use Rattle.shapes.specs.Shape.{Block}
use Rattle.sweep_steps.specs.Places.{offset}
use Rattle.sweep_steps.specs.Share.{shares}
use Rattle.sweep_steps.specs.Steps.{push_look, stretch_look}
use Rattle.sweep_steps.specs.declared.PushLook.{PushLook}
use Rattle.sweep_steps.specs.declared.StretchLook.{StretchLook}

module _ (s t : Block) (o k : ℕ) where
  pub push_ends : shares s.base t.base ≡ true → k ≤ t.upper - o → PushLook.Ends (offset (o + k)) ≡ push_look s t o k
  unfolding push_look
  push_ends e h = simp (e, le-leb k (t.upper - o) h)

  pub push_goes_on : shares s.base t.base ≡ true → t.upper - o < k → PushLook.GoesOn (k - (t.upper - o)) ≡ push_look s t o k
  unfolding push_look
  push_goes_on e h = simp (e, lt-leb k (t.upper - o) h)

  pub push_restarts : shares s.base t.base ≡ false → o < t.lower → PushLook.Restarts ≡ push_look s t o k
  unfolding push_look
  push_restarts e h = simp (e, lt-ltb o t.lower h)

  pub push_skips : shares s.base t.base ≡ false → t.lower ≤ o → PushLook.GoesOn k ≡ push_look s t o k
  unfolding push_look
  push_skips e h = simp (e, le-ltb o t.lower h)

  pub stretch_skips : t.lower ≤ o → StretchLook.GoesOn k ≡ stretch_look s t o k
  unfolding stretch_look
  stretch_skips h = simp (le-leb t.lower o h)

  pub stretch_ends : o < t.lower → shares s.base t.base ≡ true → k < t.lower - o → StretchLook.Ends (offset (o + k)) ≡ stretch_look s t o k
  unfolding stretch_look
  stretch_ends h e f = simp (lt-leb t.lower o h, e, lt-ltb k (t.lower - o) f)

  pub stretch_goes_on : o < t.lower → shares s.base t.base ≡ true → t.lower - o ≤ k → StretchLook.GoesOn (k - (t.lower - o)) ≡ stretch_look s t o k
  unfolding stretch_look
  stretch_goes_on h e f = simp (lt-leb t.lower o h, e, le-ltb k (t.lower - o) f)

  pub stretch_blocked : o < t.lower → shares s.base t.base ≡ false → StretchLook.Ends (offset o) ≡ stretch_look s t o k
  unfolding stretch_look
  stretch_blocked h e = simp (lt-leb t.lower o h, e)
