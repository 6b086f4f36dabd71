-- Stretch is never behind a run: from a place at or after the run's start, it ends at or after the run's end. Assumes
-- nothing.
use mathlib.Core.Path.{◌≡◌, refl}
use mathlib.Core.List.{List, [], ◌∷◌}
use mathlib.Core.Logic.{⊎_elim}
use Prim.Native.Nat.{ℕ, suc, ◌+◌, ◌-◌, ◌≤◌, ◌<◌, min}
use native.Mathlib.Omega.{arith}
use lib.ListN.{length, drop, get_or, length-drop}
use lib.Seq.{get_or-drop}
use Rattle.plain.proofs.Plain.{lt_or_le}
use Rattle.shapes.specs.Shape.{Block, no_block}
use Rattle.sweep_steps.specs.Places.{at, number_of, offset_of}
use Rattle.sweep_steps.specs.Steps.{stretch_look, stretch_on, stretch_looked, stretching, stretch}
use Rattle.sweep_steps.specs.declared.Place.{Place}
use Rattle.sweep_steps.specs.declared.StretchLook.{StretchLook}
use Rattle.sweep_steps.proofs.Views.{StretchView, used, blocked, short, crosses, stretch_view}
use Rattle.sweep_steps.proofs.Looks.{Inside, stretching_walked}
use Rattle.sweep_steps.proofs.Laid.{Spans, Laid, done, next, sum, stand, stand_here, stand_ahead, stand_first, view}
use Rattle.sweep_steps.proofs.Pushing.{clash}

-- a run of s, of at most its upper count, from behind the first p up to the first e
pub record ShortRun (c : ℕ → ℕ) (s : Block) (p e : ℕ) : Type 0 where
  pub spans : Spans c s.base p e
  pub few : e ≤ p + s.upper

module _ (c : ℕ → ℕ) (s : Block) (p e : ℕ) (run : ShortRun c s p e) where
  pub stretching_reaches : {ts : List Block} {q : ℕ} {ns : List ℕ} → Laid c q ts ns → (i o k : ℕ) → p ≤ stand i q ns (at i o) → e ≤ stand i q ns (at i o) + k
      → e ≤ q + sum ns → e ≤ stand i q ns (stretching s k i o ts).end
  unfolding stretching sum
  stretching_reaches {q = q} done i o k here rest fit = unfold stand in omega arith
  stretching_reaches {q = q} (next {n = n} {b = t} {s = ts} {ns = ns} lo hi held r) i o k here rest fit =
      step (stretch_look s t o k) (stretch_view s t o k)
      (λ k' here' rest'. stretching_reaches r (i + 1) 0 k' (rw (stand_first (i + 1) (q + n) ns) here') (rw (stand_first (i + 1) (q + n) ns) rest') (omega arith))
    where
      on : p ≤ q + min o n
      on = rw (stand_here i q n ns (at i o) (omega arith)) at here

      left : e ≤ q + min o n + k
      left = rw (stand_here i q n ns (at i o) (omega arith)) at rest

      further : (k' : ℕ) → e ≤ stand (i + 1) (q + n) ns (stretching s k' (i + 1) 0 ts).end → e ≤ stand i q (n ∷ ns) (stretching s k' (i + 1) 0 ts).end
      further k' h =
          let w = stretching_walked s k' (i + 1) 0 ts in
          rw (stand_ahead i q n ns (stretching s k' (i + 1) 0 ts).end (omega (arith, w.onward))) h

      step : (l : StretchLook) → StretchView s t o k l
          → ((k' : ℕ) → p ≤ q + n → e ≤ q + n + k' → e ≤ stand (i + 1) (q + n) ns (stretching s k' (i + 1) 0 ts).end)
          → e ≤ stand i q (n ∷ ns) (stretch_looked (stretch_on i l (λ k'. stretching s k' (i + 1) 0 ts))).end
      step (StretchLook.GoesOn _) (used f) ih = further k (ih k (omega (arith, on)) (omega (arith, left)))
      step (StretchLook.Ends _) (blocked f m) ih =
          rw (stand_here i q n ns (at i o) (omega arith))
          (⊎_elim (λ h. absurd (clash run.spans held m (q + o) (omega (arith, on)) h (omega arith) (omega arith)))
          (λ h. let g : e ≤ q + min o n = omega arith in g) (lt_or_le (q + o) e))
      step (StretchLook.Ends _) (short f m h) ih =
          let g : e ≤ q + min (o + k) n = omega (arith, left) in
          rw (stand_here i q n ns (at i (o + k)) (omega arith)) g
      step (StretchLook.GoesOn _) (crosses f m h) ih = further (k - (t.lower - o)) (ih (k - (t.lower - o)) (omega (arith, on)) (omega (arith, left)))

  -- the same from a place of a whole shape
  pub stretch_reaches : {y : List Block} {ns : List ℕ} → Laid c 0 y ns → (from : Place) → Inside (length y) from → p ≤ stand 1 0 ns from → e ≤ sum ns
      → e ≤ stand 1 0 ns (stretch s y from).end
  unfolding stretch
  stretch_reaches {y} {ns} laid from inside here fit =
      let j = number_of from - 1 in
      let w = view laid from inside.first inside.last in
      let here' : p ≤ stand (number_of from) w.behind (drop j ns) from = rw (w.same from (omega arith)) at here in
      let h = stretching_reaches w.laid (number_of from) (offset_of from) s.upper here' (let f = run.few in omega arith) (let f = w.whole in omega arith) in
      let o = stretching_walked s s.upper (number_of from) (offset_of from) (drop j y) in
      rw (w.same (stretching s s.upper (number_of from) (offset_of from) (drop j y)).end o.onward) h

-- where stretch ends: short of some block's lower count, or past the end
pub data Lands (i : ℕ) (ts : List Block) (q : Place) : Type 0 where
  short_of : (j : ℕ) → j < length ts → number_of q ≡ i + j → offset_of q < (get_or ts j no_block).lower → Lands i ts q
  past : number_of q ≡ i + length ts → offset_of q ≡ 0 → Lands i ts q

lands_next : {i : ℕ} {t : Block} {ts : List Block} {q : Place} → Lands (i + 1) ts q → Lands i (t ∷ ts) q
lands_next (short_of j a b d) = short_of (suc j) (omega arith) (omega arith) d
lands_next (past a b) = past (omega arith) b

pub stretching_lands : (s : Block) (k i o : ℕ) (ts : List Block) → (length ts ≡ 0 → o ≡ 0) → Lands i ts (stretching s k i o ts).end
unfolding stretching
stretching_lands s k i o [] h = past (omega arith) (h refl)
stretching_lands s k i o (t ∷ ts) h = step (stretch_look s t o k) (stretch_view s t o k) (λ k'. stretching_lands s k' (i + 1) 0 ts (λ _. refl))
  where
    step : (l : StretchLook) → StretchView s t o k l → ((k' : ℕ) → Lands (i + 1) ts (stretching s k' (i + 1) 0 ts).end)
        → Lands i (t ∷ ts) (stretch_looked (stretch_on i l (λ k'. stretching s k' (i + 1) 0 ts))).end
    step (StretchLook.GoesOn _) (used f) ih = lands_next (ih k)
    step (StretchLook.Ends _) (blocked f m) ih = short_of 0 (omega arith) (omega arith) f
    step (StretchLook.Ends _) (short f m g) ih = short_of 0 (omega arith) (omega arith) (omega arith)
    step (StretchLook.GoesOn _) (crosses f m g) ih = lands_next (ih (k - (t.lower - o)))

pub stretch_lands : (s : Block) (y : List Block) (from : Place) → Inside (length y) from → (length y < number_of from → offset_of from ≡ 0) → Lands 1 y (stretch s y from).end
unfolding stretch
stretch_lands s y from inside h =
    let j = number_of from - 1 in
    let few = length-drop j y in
    go j few (omega (arith, inside.first)) (omega (arith, inside.last)) (stretching_lands s s.upper (number_of from) (offset_of from) (drop j y) (λ e. h (omega arith)))
  where
    go : (j : ℕ) {q : Place} → length (drop j y) ≡ length y - j → number_of from ≡ 1 + j → j ≤ length y → Lands (number_of from) (drop j y) q → Lands 1 y q
    go j few e l (short_of d a b f) = short_of (j + d) (omega arith) (omega arith) (rw (get_or-drop j y d no_block) at f)
    go j few e l (past a b) = past (omega arith) b
