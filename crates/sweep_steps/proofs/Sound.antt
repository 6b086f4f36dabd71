-- Against one text laid out along both shapes, the sweep finds places, each standing at or before its block's run.
-- Assumes nothing.
use mathlib.Core.Path.{◌≡◌, refl}
use mathlib.Core.Bool.{true}
use mathlib.Core.List.{List, [], ◌∷◌, reverse}
use Prim.Native.Nat.{ℕ, ◌+◌, ◌-◌, ◌≤◌, ◌<◌}
use native.Mathlib.Omega.{arith}
use lib.ListN.{length, length-reverse}
use borrow.Author.Tests.{eq-eqb}
use Rattle.shapes.specs.Shape.{Block}
use Rattle.sweep_steps.specs.Places.{at, number_of, offset_of, is_start, later, forward}
use Rattle.sweep_steps.specs.Steps.{push, stretch, Held, StretchedFrom, stretch_next, stretches, Found, places, found, looked, push_next, pushes, first_place, sweep_of}
use Rattle.sweep_steps.specs.declared.Place.{Place}
use Rattle.sweep_steps.specs.declared.Pushed.{Pushed}
use Rattle.sweep_steps.proofs.Looks.{Inside, push_stepped, stretch_stepped, forward_inside, later_is}
use Rattle.sweep_steps.proofs.Laid.{Laid, done, next, sum, stand, stand_first}
use Rattle.sweep_steps.proofs.Pushing.{LongRun, push_caught}
use Rattle.sweep_steps.proofs.Stretching.{ShortRun, stretch_reaches, Lands, short_of, past, stretch_lands}
use Rattle.sweep_steps.proofs.Turned.{turned, turned_spans, laid_turned, sum_reverse, forward_stands, forward_starts}

-- blocks of X, with runs of these lengths from behind the first a, and stretched places at or before their starts
data Placed (c : ℕ → ℕ) (m : ℕ) (ns : List ℕ) : ℕ → List ℕ → List Held → Type 0 where
  none : {a : ℕ} → Placed c m ns a [] []
  more : {a n : ℕ} {fs : List ℕ} {h : Held} {hs : List Held} → LongRun c h.block a (a + n) → Inside m h.place → stand 1 0 ns h.place ≤ a
      → Placed c m ns (a + n) fs hs → Placed c m ns a (n ∷ fs) (h ∷ hs)

-- places at or before the starts of runs of these lengths from behind the first a
pub data Starts (ns : List ℕ) : ℕ → List ℕ → List Place → Type 0 where
  none : {a : ℕ} → Starts ns a [] []
  more : {a n : ℕ} {fs : List ℕ} {q : Place} {qs : List Place} → stand 1 0 ns q ≤ a → Starts ns (a + n) fs qs → Starts ns a (n ∷ fs) (q ∷ qs)

pub data Right (ns : List ℕ) (a : ℕ) (fs : List ℕ) : Found → Type 0 where
  right : {qs : List Place} {l : ℕ} → Starts ns a fs qs → Right ns a fs (places qs l)

-- the stretches of X's blocks from behind the first a on
record Reached (c : ℕ → ℕ) (y : List Block) (ns : List ℕ) (a : ℕ) (fs : List ℕ) (s : StretchedFrom) : Type 0 where
  inside : Inside (length y) s.reached
  ended : length y < number_of s.reached → offset_of s.reached ≡ 0
  far : sum ns - a ≤ stand 1 0 (reverse ns) s.reached
  placed : Placed c (length y) ns a fs s.held
  started : stand 1 0 ns (first_place s.held) ≤ 0 → is_start (first_place s.held) ≡ true

lands_ended : {y : List Block} {q : Place} → Lands 1 y q → length y < number_of q → offset_of q ≡ 0
lands_ended (short_of j a b d) h = absurd (omega arith)
lands_ended (past a b) h = b

module _ (c : ℕ → ℕ) (y : List Block) (ns : List ℕ) (laid : Laid c 0 y ns) where
  stretches_reach : {a : ℕ} {x : List Block} {fs : List ℕ} → Laid c a x fs → a + sum fs ≡ sum ns → Reached c y ns a fs (stretches x y)
  unfolding stretches sum
  stretches_reach done e = record { inside = omega arith; ended = λ _. refl; far = omega arith; placed = none; started = λ _. refl }
  stretches_reach {a} (next {n = n} {b = b} {s = x} {ns = fs} lo hi held r) e = step (stretches x y) (stretches_reach r (omega arith))
    where
      step : (s : StretchedFrom) → Reached c y ns (a + n) fs s → Reached c y ns a (n ∷ fs) (stretch_next b y s)
      step s h =
          let m = length-reverse y in
          let total = sum_reverse ns in
          let start = s.reached in
          let end = (stretch b (reverse y) start).end in
          let in-turned : Inside (length (reverse y)) start = rw (length-reverse y) h.inside in
          let run : ShortRun (turned c (sum ns)) b (sum ns - (a + n)) (sum ns - a) = record { spans = turned_spans (sum ns) (omega arith) held; few = omega arith } in
          let reach = stretch_reaches (turned c (sum ns)) b (sum ns - (a + n)) (sum ns - a) run (laid_turned laid) start in-turned h.far (omega arith) in
          let lands = stretch_lands b (reverse y) start in-turned (λ g. h.ended (omega arith)) in
          let out : Inside (length y) end = rw (length-reverse y) at (stretch_stepped b (reverse y) start in-turned).inside in
          let stood = forward_stands laid end (sum ns - a) lands reach (omega arith) in
          record {
            inside = out;
            ended = λ g. lands_ended lands (omega arith);
            far = reach;
            placed = more {h = record { block = b; place = forward y end }} (record { spans = held; enough = omega arith }) (forward_inside y end out) (omega arith) h.placed;
            started = forward_starts laid end lands;
          }

  pushes_right : {a : ℕ} {fs : List ℕ} {hs : List Held} → Placed c (length y) ns a fs hs → (end : Place) → Inside (length y) end → stand 1 0 ns end ≤ a → a + sum fs ≡ sum ns
      → Right ns a fs (pushes y hs end)
  unfolding pushes sum
  pushes_right none end inside here e = right none
  pushes_right {a} (more {n = n} {fs = fs} {h = h} {hs = hs} run i f r) end inside here e =
      let from = later h.place end in
      let in-y = later_is (Inside (length y)) h.place end i inside in
      let caught = push_caught c h.block a (a + n) run laid from in-y (later_is (λ (q : Place). stand 1 0 ns q ≤ a) h.place end f here) (omega arith) in
      let result = push h.block y from in
      step result caught.0 caught.1 (pushes_right r result.end (push_stepped h.block y from in-y).inside (let g = run.enough in let d = caught.2 in omega arith) (omega arith))
    where
      step : (p : Pushed) → p.left ≡ 0 → stand 1 0 ns p.start ≤ a → Right ns (a + n) fs (pushes y hs p.end) → Right ns a (n ∷ fs) (push_next p (pushes y hs p.end))
      step p z g ih = rw (eq-eqb p.left 0 z) (join (pushes y hs p.end) ih)
        where
          join : (t : Found) → Right ns (a + n) fs t → Right ns a (n ∷ fs) (found p.start p.looks t)
          join (Rattle.sweep_steps.specs.Steps.cannot _) x6 = elim x6 [ ]
          join (places qs l) (right s) = right (more g s)

  pub sweep_right : {x : List Block} {fs : List ℕ} → Laid c 0 x fs → sum fs ≡ sum ns → Right ns 0 fs (sweep_of x y)
  unfolding sweep_of
  sweep_right {x} {fs} l e =
      let h = stretches_reach l (omega arith) in
      rw (h.started (first h.placed)) (more_looks (pushes y (stretches x y).held (at 1 0)) (pushes_right h.placed (at 1 0) (omega arith) (rw (stand_first 1 0 ns) (omega arith)) (omega arith)))
    where
      first : {gs : List ℕ} {hs : List Held} → Placed c (length y) ns 0 gs hs → stand 1 0 ns (first_place hs) ≤ 0
      first none = rw (stand_first 1 0 ns) (omega arith)
      first (more r i f t) = f

      more_looks : (t : Found) → Right ns 0 fs t → Right ns 0 fs (looked (stretches x y).looks t)
      more_looks (Rattle.sweep_steps.specs.Steps.cannot _) x3 = elim x3 [ ]
      more_looks (places qs k) (right s) = right s
