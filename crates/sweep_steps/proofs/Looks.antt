-- The looks of the sweep: each moves on by a block or ends the step, so there are at most 2 (n + m). Assumes nothing.
use mathlib.Core.Path.{◌≡◌, refl, ap}
use mathlib.Core.Bool.{Bool, true, false}
use mathlib.Core.List.{List, [], ◌∷◌, reverse}
use Prim.Native.Nat.{ℕ, suc, ◌+◌, ◌-◌, ◌*◌, ◌≤◌}
use native.Mathlib.Omega.{arith}
use lib.Dec.{eqb, ltb}
use lib.ListN.{length, drop, length-drop, length-reverse}
use borrow.Author.Tests.{ltb-false, eqb-true}
use Rattle.plain.specs.All.{All, none, more}
use Rattle.shapes.specs.Shape.{Block}
use Rattle.sweep_steps.specs.Share.{pick}
use Rattle.sweep_steps.specs.Places.{at, number_of, offset_of, is_start, before, later, forward, nth}
use Rattle.sweep_steps.specs.Steps.{push_look, push_on, push_looked, pushing, push, stretch_look, stretch_on, stretch_looked, stretching, stretch}
use Rattle.sweep_steps.specs.Steps.{Held, StretchedFrom, stretch_next, stretches, Found, places, cannot, looks_of, found, looked, push_next, pushes, first_place, sweep_of}
use Rattle.sweep_steps.specs.declared.Place.{Place}
use Rattle.sweep_steps.specs.declared.Pushed.{Pushed}
use Rattle.sweep_steps.specs.declared.PushLook.{PushLook}
use Rattle.sweep_steps.specs.declared.StretchLook.{StretchLook}
use Rattle.sweep_steps.proofs.Views.{by_zero}

-- a walk from block i along some blocks: where it ends, and with how many looks; each block passed is looked at, and at
-- most one more
pub record Walked (i len : ℕ) (end : Place) (looks : ℕ) : Type 0 where
  pub onward : i ≤ number_of end
  pub upto : number_of end ≤ i + len
  pub passed : number_of end ≤ looks + i
  pub counted : looks + i ≤ number_of end + 1

pub pushing_walked : (s : Block) (k : ℕ) (start : Place) (i o : ℕ) (ts : List Block)
    → Walked i (length ts) (pushing s k start i o ts).end (pushing s k start i o ts).looks
unfolding pushing
pushing_walked s k start i o [] = omega arith
pushing_walked s k start i o (t ∷ ts) =
    by_zero (λ (p : Pushed). Walked i (suc (length ts)) p.end p.looks) k (λ e. omega arith)
    (λ e. step (push_look s t o k) (λ k' start'. pushing_walked s k' start' (i + 1) 0 ts))
  where
    step : (l : PushLook) → ((k' : ℕ) (start' : Place) → Walked (i + 1) (length ts) (pushing s k' start' (i + 1) 0 ts).end (pushing s k' start' (i + 1) 0 ts).looks)
        → Walked i (suc (length ts)) (push_looked (push_on s start i l (λ k' start'. pushing s k' start' (i + 1) 0 ts))).end
        (push_looked (push_on s start i l (λ k' start'. pushing s k' start' (i + 1) 0 ts))).looks
    step (PushLook.Ends e) ih = omega arith
    step PushLook.Restarts ih = let h = ih s.lower (at (i + 1) 0) in omega arith
    step (PushLook.GoesOn k') ih = let h = ih k' start in omega arith

pub stretching_walked : (s : Block) (k i o : ℕ) (ts : List Block)
    → Walked i (length ts) (stretching s k i o ts).end (stretching s k i o ts).looks
unfolding stretching
stretching_walked s k i o [] = omega arith
stretching_walked s k i o (t ∷ ts) = step (stretch_look s t o k) (λ k'. stretching_walked s k' (i + 1) 0 ts)
  where
    step : (l : StretchLook) → ((k' : ℕ) → Walked (i + 1) (length ts) (stretching s k' (i + 1) 0 ts).end (stretching s k' (i + 1) 0 ts).looks)
        → Walked i (suc (length ts)) (stretch_looked (stretch_on i l (λ k'. stretching s k' (i + 1) 0 ts))).end
        (stretch_looked (stretch_on i l (λ k'. stretching s k' (i + 1) 0 ts))).looks
    step (StretchLook.Ends e) ih = omega arith
    step (StretchLook.GoesOn k') ih = let h = ih k' in omega arith

-- a place in a shape of m blocks, or past its end
pub record Inside (m : ℕ) (p : Place) : Type 0 where
  pub first : 1 ≤ number_of p
  pub last : number_of p ≤ m + 1

-- a step from one place to another, with some looks
pub record Stepped (m : ℕ) (from end : Place) (looks : ℕ) : Type 0 where
  pub inside : Inside m end
  pub onward : number_of from ≤ number_of end
  pub counted : looks + number_of from ≤ number_of end + 1

stepped : (m : ℕ) (from end : Place) (looks len : ℕ) → Inside m from → len ≡ m - (number_of from - 1) → Walked (number_of from) len end looks → Stepped m from end looks
stepped m from end looks len h e w = omega arith

pub push_stepped : (s : Block) (y : List Block) (from : Place) → Inside (length y) from → Stepped (length y) from (push s y from).end (push s y from).looks
unfolding push
push_stepped s y from h = stepped (length y) from _ _ _ h (length-drop (number_of from - 1) y) (pushing_walked s s.lower from (number_of from) (offset_of from) (drop (number_of from - 1) y))

pub stretch_stepped : (s : Block) (y : List Block) (from : Place) → Inside (length y) from → Stepped (length y) from (stretch s y from).end (stretch s y from).looks
unfolding stretch
stretch_stepped s y from h = stepped (length y) from _ _ _ h (length-drop (number_of from - 1) y) (stretching_walked s s.upper (number_of from) (offset_of from) (drop (number_of from - 1) y))

pub forward_inside : (y : List Block) (p : Place) → Inside (length y) p → Inside (length y) (forward y p)
unfolding forward
forward_inside y p h = go (ltb (length y) (number_of p)) refl
  where
    j : ℕ
    j = length y + 1 - number_of p

    go : (t : Bool) → ltb (length y) (number_of p) ≡ t → Inside (length y) (pick t (at 1 0) (at j ((nth y j).lower - offset_of p)))
    go true e = omega arith
    go false e = let l = ltb-false (length y) (number_of p) e in omega arith

-- the later of two places is one of them, and no earlier block than the second
pub later_is : (P : Place → Type 0) (p q : Place) → P p → P q → P (later p q)
unfolding later
later_is P p q a b = go (before p q)
  where
    go : (t : Bool) → P (pick t q p)
    go true = b
    go false = a

pub later_block : (p q : Place) → number_of q ≤ number_of (later p q)
unfolding later before
later_block p q = go (eqb (number_of p) (number_of q)) refl (ltb (offset_of p) (offset_of q)) (ltb (number_of p) (number_of q)) refl
  where
    go : (t : Bool) → eqb (number_of p) (number_of q) ≡ t → (u v : Bool) → ltb (number_of p) (number_of q) ≡ v → number_of q ≤ number_of (pick (pick t u v) q p)
    go true e true v g = omega arith
    go true e false v g = let h = eqb-true (number_of p) (number_of q) e in omega arith
    go false e u true g = omega arith
    go false e u false g = let h = ltb-false (number_of p) (number_of q) g in omega arith

abbrev pub HeldInside : ℕ → Held → Type 0
HeldInside m h = Inside m h.place

-- the stretches of n blocks
pub record Stretches (n m : ℕ) (s : StretchedFrom) : Type 0 where
  pub inside : Inside m s.reached
  pub held : All (HeldInside m) s.held
  pub many : length s.held ≡ n
  pub counted : s.looks + 1 ≤ n + number_of s.reached

pub stretches_counted : (x y : List Block) → Stretches (length x) (length y) (stretches x y)
unfolding stretches
stretches_counted [] y = record { inside = omega arith; held = none; many = refl; counted = omega arith }
stretches_counted (b ∷ x) y = next (stretches x y) (stretches_counted x y)
  where
    next : (s : StretchedFrom) → Stretches (length x) (length y) s → Stretches (suc (length x)) (length y) (stretch_next b y s)
    next s h =
        let w : Stepped (length y) s.reached (stretch b (reverse y) s.reached).end (stretch b (reverse y) s.reached).looks
        = rw (length-reverse y) at (stretch_stepped b (reverse y) s.reached (rw (length-reverse y) h.inside)) in
        record {
          inside = w.inside;
          held = more (forward_inside y (stretch b (reverse y) s.reached).end w.inside) h.held;
          many = ap suc h.many;
          counted = let a = h.counted in let c = w.counted in omega arith;
        }

found_looks : (p : Place) (k : ℕ) (r : Found) → looks_of (found p k r) ≡ k + looks_of r
found_looks p k (places ps l) = refl
found_looks p k (cannot l) = refl

looked_looks : (k : ℕ) (r : Found) → looks_of (looked k r) ≡ k + looks_of r
looked_looks k (places ps l) = refl
looked_looks k (cannot l) = refl

pub pushes_counted : (y : List Block) (hs : List Held) (end : Place) → All (HeldInside (length y)) hs → Inside (length y) end
    → looks_of (pushes y hs end) + number_of end ≤ length hs + length y + 1
unfolding pushes
pushes_counted y [] end hs e = omega arith
pushes_counted y (h ∷ hs) end (more p ps) e =
    let from = later h.place end in
    let w = push_stepped h.block y from (later_is (Inside (length y)) h.place end p e) in
    next (push h.block y from) (later_block h.place end) w (pushes_counted y hs (push h.block y from).end ps w.inside)
  where
    next : (r : Pushed) → number_of end ≤ number_of (later h.place end) → Stepped (length y) (later h.place end) r.end r.looks
        → looks_of (pushes y hs r.end) + number_of r.end ≤ length hs + length y + 1
        → looks_of (push_next r (pushes y hs r.end)) + number_of end ≤ suc (length hs) + length y + 1
    next r l w ih = by_zero (λ (z : Found). looks_of z + number_of end ≤ suc (length hs) + length y + 1) r.left
        (λ z. let f = found_looks r.start r.looks (pushes y hs r.end) in let c = w.counted in omega arith)
        (λ z. let c = w.counted in let i = w.inside.last in omega arith)

pub looks_bounded : (x y : List Block) → looks_of (sweep_of x y) ≤ 2 * (length x + length y)
unfolding sweep_of
looks_bounded x y = go (is_start (first_place (stretches x y).held))
  where
    s : StretchedFrom
    s = stretches x y

    go : (t : Bool) → looks_of (pick t (looked s.looks (pushes y s.held (at 1 0))) (cannot s.looks)) ≤ 2 * (length x + length y)
    go true =
        let h = stretches_counted x y in
        let p = pushes_counted y s.held (at 1 0) h.held (omega arith) in
        let l = looked_looks s.looks (pushes y s.held (at 1 0)) in
        let a = h.counted in let b = h.inside.last in let c = h.many in omega arith
    go false = let h = stretches_counted x y in let a = h.counted in let b = h.inside.last in omega arith
