-- Push is never ahead of a run: from a place at or before the run's start, it finds a start and an end at or before the
-- run's. Assumes nothing.
use mathlib.Core.Path.{◌≡◌, refl, sym, ◌∙◌, subst}
use mathlib.Core.List.{List, ◌∷◌}
use mathlib.Core.Logic.{◌⊎◌, inl, inr, ⊎_elim}
use Prim.Native.Nat.{ℕ, ◌+◌, ◌-◌, ◌≤◌, ◌<◌, min}
use native.Mathlib.Omega.{arith}
use lib.ListN.{length, drop}
use Rattle.bases.specs.Base.{Meets}
use Rattle.plain.proofs.Plain.{lt_or_le}
use Rattle.shapes.specs.Shape.{Block}
use Rattle.sweep_steps.specs.Places.{at, number_of, offset_of}
use Rattle.sweep_steps.specs.Steps.{push_look, push_on, push_looked, pushing, push}
use Rattle.sweep_steps.specs.declared.Place.{Place}
use Rattle.sweep_steps.specs.declared.Pushed.{Pushed}
use Rattle.sweep_steps.specs.declared.PushLook.{PushLook}
use Rattle.sweep_steps.proofs.Views.{PushView, fits, fills, blocked, skips, push_view, by_zero}
use Rattle.sweep_steps.proofs.Looks.{Inside, pushing_walked}
use Rattle.sweep_steps.proofs.Laid.{Spans, Laid, done, next, sum, stand, stand_here, stand_ahead, stand_first, view}

-- a run of s, of at least its lower count, from behind the first p up to the first e
pub record LongRun (c : ℕ → ℕ) (s : Block) (p e : ℕ) : Type 0 where
  pub spans : Spans c s.base p e
  pub enough : p + s.lower ≤ e

-- what push comes to, against a run that starts behind the first p, where the start so far was `start`
pub record Caught (p l i q : ℕ) (ns : List ℕ) (start : Place) (r : Pushed) : Type 0 where
  pub all : r.left ≡ 0
  pub starts : (r.start ≡ start) ⊎ ((i ≤ number_of r.start) × (stand i q ns r.start ≤ p))
  pub ends : stand i q ns r.end ≤ p + l

-- a character that stands in two runs is one that their bases share
pub clash : {c : ℕ → ℕ} {a b p e q f : ℕ} → Spans c a p e → Spans c b q f → (Meets a b → ⊥) → (v : ℕ) → p ≤ v → v < e → q ≤ v → v < f → ⊥
clash {c} hs ht apart v x y z w = apart (record { shared = c v; first = hs.held v x y; second = ht.held v z w })

-- a block that shares nothing with s, with its run of n characters behind the first q: what is left of s's run is past
-- it, and all of it is if the block's run must have had more than o
module _ (c : ℕ → ℕ) (s t : Block) (p e q n o k : ℕ) (run : LongRun c s p e) (other : Spans c t.base q (q + n)) (apart : Meets s.base t.base → ⊥)
    (pos : 0 < k) (most : k ≤ s.lower) (here : q + min o n ≤ p + (s.lower - k)) where
  skipped : q + n ≤ p + (s.lower - k)
  skipped =
      ⊎_elim (λ h. absurd (clash run.spans other apart (p + (s.lower - k)) (omega arith) (let g = run.enough in omega arith) (omega arith) h))
      (λ h. h) (lt_or_le (p + (s.lower - k)) (q + n))

  restarted : o < n → q + n ≤ p
  restarted some =
      let past = skipped in
      ⊎_elim (λ h. absurd (clash run.spans other apart (q + n - 1) (omega arith) (let g = run.enough in omega arith) (omega arith) (omega arith)))
      (λ h. h) (lt_or_le p (q + n))

-- from the blocks behind the first to all of them
module _ (p l i q n : ℕ) (ns : List ℕ) (start start' : Place) (r : Pushed) (from : (start' ≡ start) ⊎ ((start' ≡ at (i + 1) 0) × (q + n ≤ p))) (far : i < number_of r.end)
    (h : Caught p l (i + 1) (q + n) ns start' r) where
  starts_all : (r.start ≡ start) ⊎ ((i ≤ number_of r.start) × (stand i q (n ∷ ns) r.start ≤ p))
  starts_all = ⊎_elim here there h.starts
    where
      here : r.start ≡ start' → (r.start ≡ start) ⊎ ((i ≤ number_of r.start) × (stand i q (n ∷ ns) r.start ≤ p))
      here e = ⊎_elim (λ f. inl (e ∙ f))
          (λ f. let z : r.start ≡ at (i + 1) 0 = e ∙ f.0 in
          let k : stand i q (n ∷ ns) (at (i + 1) 0) ≤ p = rw (stand_ahead i q n ns (at (i + 1) 0) (omega arith), stand_first (i + 1) (q + n) ns) f.1 in
          inr (subst (λ (x : Place). (i ≤ number_of x) × (stand i q (n ∷ ns) x ≤ p)) (sym z) (omega arith, k)))
          from

      there : ((i + 1 ≤ number_of r.start) × (stand (i + 1) (q + n) ns r.start ≤ p)) → (r.start ≡ start) ⊎ ((i ≤ number_of r.start) × (stand i q (n ∷ ns) r.start ≤ p))
      there f = inr (omega arith, let g : i < number_of r.start = omega arith in rw (stand_ahead i q n ns r.start g) f.1)

  ahead : Caught p l i q (n ∷ ns) start (push_looked r)
  ahead = record { all = h.all; starts = starts_all; ends = rw (stand_ahead i q n ns r.end far) h.ends }

module _ (c : ℕ → ℕ) (s : Block) (p e : ℕ) (run : LongRun c s p e) where
  pub pushing_caught : {ts : List Block} {q : ℕ} {ns : List ℕ} → Laid c q ts ns → (i o k : ℕ) (start : Place) → k ≤ s.lower → stand i q ns (at i o) ≤ p + (s.lower - k)
      → e ≤ q + sum ns → Caught p s.lower i q ns start (pushing s k start i o ts)
  unfolding pushing sum
  pushing_caught {q = q} done i o k start most here fit =
      record { all = let g = run.enough in let b : q ≤ p + (s.lower - k) = unfold stand in omega arith in omega arith; starts = inl refl; ends = omega arith }
  pushing_caught {q = q} (next {n = n} {b = t} {s = ts} {ns = ns} lo hi held r) i o k start most here fit =
      by_zero (Caught p s.lower i q (n ∷ ns) start) k
      (λ z. record { all = z; starts = inl refl; ends = omega arith })
      (λ z. step (push_look s t o k) (push_view s t o k) (omega arith)
      (λ k' start' most' here'. pushing_caught r (i + 1) 0 k' start' most' (rw (stand_first (i + 1) (q + n) ns) here') (omega arith)))
    where
      on : q + min o n ≤ p + (s.lower - k)
      on = rw (stand_here i q n ns (at i o) (omega arith)) at here

      step : (l : PushLook) → PushView s t o k l → 0 < k
          → ((k' : ℕ) (start' : Place) → k' ≤ s.lower → q + n ≤ p + (s.lower - k') → Caught p s.lower (i + 1) (q + n) ns start' (pushing s k' start' (i + 1) 0 ts))
          → Caught p s.lower i q (n ∷ ns) start (push_looked (push_on s start i l (λ k' start'. pushing s k' start' (i + 1) 0 ts)))
      step (PushLook.Ends _) (fits m f) pos ih = record { all = refl; starts = inl refl; ends = let g : q + min (o + k) n ≤ p + s.lower = omega (arith, on) in rw (stand_here i q n ns (at i (o + k)) (omega arith)) g }
      step (PushLook.GoesOn _) (fills m f) pos ih =
          ahead p s.lower i q n ns start start _ (inl refl) (let w = pushing_walked s (k - (t.upper - o)) start (i + 1) 0 ts in omega (arith, w.onward)) (ih (k - (t.upper - o)) start (omega arith) (omega (arith, on)))
      step PushLook.Restarts (blocked m f) pos ih =
          let past = restarted c s t p e q n o k run held m pos most on (omega arith) in
          ahead p s.lower i q n ns start (at (i + 1) 0) _ (inr (refl, past)) (let w = pushing_walked s s.lower (at (i + 1) 0) (i + 1) 0 ts in omega (arith, w.onward)) (ih s.lower (at (i + 1) 0) (omega arith) (omega arith))
      step (PushLook.GoesOn _) (skips m f) pos ih =
          ahead p s.lower i q n ns start start _ (inl refl) (let w = pushing_walked s k start (i + 1) 0 ts in omega (arith, w.onward)) (ih k start most (skipped c s t p e q n o k run held m pos most on))

  -- the same from a place of a whole shape
  pub push_caught : {y : List Block} {ns : List ℕ} → Laid c 0 y ns → (from : Place) → Inside (length y) from → stand 1 0 ns from ≤ p → e ≤ sum ns
      → ((push s y from).left ≡ 0) × (stand 1 0 ns (push s y from).start ≤ p) × (stand 1 0 ns (push s y from).end ≤ p + s.lower)
  unfolding push
  push_caught {y} {ns} laid from inside here fit =
      let j = number_of from - 1 in
      let w = view laid from inside.first inside.last in
      let r = pushing s s.lower from (number_of from) (offset_of from) (drop j y) in
      let h = pushing_caught w.laid (number_of from) (offset_of from) s.lower from (omega arith)
      (let b : stand (number_of from) w.behind (drop j ns) from ≤ p = rw (w.same from (omega arith)) at here in omega arith)
      (let f = w.whole in omega arith) in
      let o = pushing_walked s s.lower from (number_of from) (offset_of from) (drop j y) in
      (h.all, ⊎_elim (λ e. subst (λ (z : Place). stand 1 0 ns z ≤ p) (sym e) here) (λ f. rw (w.same r.start f.0) f.1) h.starts, rw (w.same r.end o.onward) h.ends)
