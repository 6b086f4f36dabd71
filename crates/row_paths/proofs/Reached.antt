-- Rows from the starts: closed forwards under the ends of runs, a row is what one text leads to. Assumes nothing.
use mathlib.Core.Path.{◌≡◌, refl, sym, ap, ◌∙◌, subst}
use mathlib.Core.Logic.{⊎_elim}
use Prim.Native.Nat.{ℕ, ◌≤◌, ◌<◌}
use native.Mathlib.Omega.{arith}
use Rattle.bases.specs.Base.{Holds, Meets}
use Rattle.plain.proofs.Plain.{lt_or_le}
use Rattle.sets.specs.Set.{Exactly}
use Rattle.shapes.specs.Shape.{Block}
use Rattle.pads.specs.Pad.{after, PadMove, first, second, both, PadPath, stay, move, UpToEnd, Along}
use Rattle.pads.proofs.Paths.{after_on, after_stays, pad_then, pad_append}
use Rattle.rows.specs.Steps.{Leads, there, step}
use Rattle.row_paths.specs.Rows.{Zones, Entered, start, ended, taken}

-- ---- the last move of a path from the starts

pub data Led (X Y : ℕ → Block) : ℕ → ℕ → Type 0 where
  begin : {i j : ℕ} → i ≡ 0 → j ≡ 0 → Led X Y i j
  then : {i j a b : ℕ} → Led X Y a b → PadPath X Y a b 0 0 → PadMove X Y a b i j → Led X Y i j

led_on : {X Y : ℕ → Block} {i j a b : ℕ} → Led X Y a b → PadPath X Y a b 0 0 → PadPath X Y i j a b → Led X Y i j
led_on {X} {Y} {i} {j} {a} {b} l p (stay e f) = subst (λ (x : ℕ). Led X Y x j) e (subst (λ (x : ℕ). Led X Y a x) f l)
led_on l p (move s q) = led_on (then l p s) (pad_then p s) q

pub led : {X Y : ℕ → Block} {i j : ℕ} → PadPath X Y i j 0 0 → Led X Y i j
led p = led_on (begin refl refl) (stay refl refl) p

-- ---- a row

module _ {X Y : ℕ → Block} where
  pub entered_path : {i j : ℕ} → Entered X Y i j → PadPath X Y i j 0 0
  entered_path (start e f) = stay (sym e) (sym f)
  entered_path (ended h l e p) = pad_then p (first l e refl)
  entered_path (taken h l e f r m p) = pad_then p (both m (e ∙ sym (after_on X h r)) f)

  module _ {Z E : ℕ → ℕ} {k : ℕ} (z : Zones Y Z E k) where
    leads_path : {s i j : ℕ} → ((q : ℕ) → Holds s q → Entered X Y i q) → Leads E Z k s j → PadPath X Y i j 0 0
    leads_path f (there h) = entered_path (f _ h)
    leads_path f (step {e = e} n l to from r) = pad_then (leads_path f r) (second (z.free n e l from) refl (z.stop n e _ l from to))

    -- how a path ends, within row i: while X has room there, it does not wait
    led_leads : {s i : ℕ} → 0 < (X i).upper → ((q : ℕ) → Entered X Y i q → Holds s q) → {a j : ℕ} → Led X Y a j → a ≡ i → Leads E Z k s j
    led_leads r f {j = j} (begin e g) h = there (f j (start (sym h ∙ e) g))
    led_leads r f {j = j} (then {a = a} {b = b} l p (first o e g)) h = there (f j (ended a o (sym h ∙ e) (subst (λ (x : ℕ). PadPath X Y a x 0 0) (sym g) p)))
    led_leads r f {j = j} (then {a = a} {b = b} l p (second o e g)) h =
        let n = z.find b o in
        step n.0 n.1 (subst (Holds (E n.0)) (sym g) n.3) n.2 (led_leads r f l (sym e ∙ h))
    led_leads r f {j = j} (then {a = a} {b = b} l p (both m e g)) h = ⊎_elim
        (λ none.
        let stays = after_stays X a (omega arith) in
        let same : _ ≡ a = sym h ∙ e ∙ stays in
        let more = subst (λ (x : ℕ). 0 < (X x).upper) same r in
        absurd (omega arith))
        (λ room. there (f j (taken a b (sym h ∙ e ∙ after_on X a room) g room m p)))
        (lt_or_le (X a).upper 1)

    pub reached_row : {s r i : ℕ} → 0 < (X i).upper → Exactly s (Entered X Y i) → Exactly r (Leads E Z k s) → Exactly r (λ j. PadPath X Y i j 0 0)
    reached_row room x y = record { so = λ j h. leads_path x.so (y.so j h); has = λ j p. y.has j (led_leads room x.has (led p) refl) }

-- ---- the last row: X waits, and Y goes on alone over padding

pub along_then : {Y : ℕ → Block} {pad i j q : ℕ} → Along Y pad i q → Along Y pad j i → Along Y pad j q
along_then {Y} {pad} {j = j} (Along.here e) v = subst (Along Y pad j) (sym e) v
along_then (Along.skip l w) v = Along.skip l (along_then w v)
along_then (Along.take m w) v = Along.take m (along_then w v)

module _ {X Y : ℕ → Block} {U pad : ℕ} (own : UpToEnd X U) (padding : (X U).base ≡ pad) where
  pub along_path : {j q : ℕ} → Along Y pad j q → PadPath X Y U j U q
  along_path (Along.here e) = stay refl e
  along_path (Along.skip l w) = move (second l refl refl) (along_path w)
  along_path {q = q} (Along.take m w) = move (both (subst (λ (v : ℕ). Meets v (Y q).base) (sym padding) m) (sym (after_stays X U own.no_room)) refl) (along_path w)

  led_along : (s : ℕ) → ((q : ℕ) → Entered X Y U q → Holds s q) → {a j : ℕ} → Led X Y a j → a ≡ U → (q : ℕ) × Holds s q × Along Y pad j q
  led_along s f {j = j} (begin e g) h = (j, f j (start (sym h ∙ e) g), Along.here refl)
  led_along s f {j = j} (then {a = a} {b = b} l p (first o e g)) h = (j, f j (ended a o (sym h ∙ e) (subst (λ (x : ℕ). PadPath X Y a x 0 0) (sym g) p)), Along.here refl)
  led_along s f {j = j} (then {a = a} {b = b} l p (second o e g)) h =
      let r = led_along s f l (sym e ∙ h) in
      (r.0, r.1, along_then r.2 (Along.skip o (Along.here (sym g))))
  led_along s f {j = j} (then {a = a} {b = b} l p (both m e g)) h = ⊎_elim
      (λ none.
      let same : a ≡ U = sym (after_stays X a (omega arith)) ∙ sym e ∙ h in
      let r = led_along s f l same in
      (r.0, r.1, along_then r.2 (Along.take (subst (λ (v : ℕ). Meets v (Y b).base) (ap (λ (x : ℕ). (X x).base) same ∙ padding) m) (Along.here (sym g)))))
      (λ room. (j, f j (taken a b (sym h ∙ e ∙ after_on X a room) g room m p), Along.here refl))
      (lt_or_le (X a).upper 1)

  pub reached_last : {s r : ℕ} → Exactly s (Entered X Y U) → Exactly r (λ j. (q : ℕ) × Holds s q × Along Y pad j q) → Exactly r (λ j. PadPath X Y U j 0 0)
  reached_last x y = record {
    so = λ j h. let t = y.so j h in pad_append (entered_path (x.so t.0 t.1)) (along_path t.2);
    has = λ j p. y.has j (led_along _ x.has (led p) refl);
  }

  -- ---- and to the ends

  pub path_along : {W i j : ℕ} → PadPath X Y U W i j → i ≡ U → Along Y pad W j
  path_along (stay e f) h = Along.here f
  path_along (move (first l e f) p) h = absurd (own.no_run (subst (λ (x : ℕ). (X x).lower ≡ 0) h l))
  path_along {W} (move (second l e f) p) h = Along.skip l (subst (Along Y pad W) f (path_along p (e ∙ h)))
  path_along {W} {j = j} (move (both m e f) p) h =
      Along.take (subst (λ (v : ℕ). Meets v (Y j).base) (ap (λ (x : ℕ). (X x).base) h ∙ padding) m)
      (subst (Along Y pad W) f (path_along p (e ∙ ap (after X) h ∙ after_stays X U own.no_room)))

  pub left_last : {W r : ℕ} → Exactly r (Along Y pad W) → Exactly r (λ j. PadPath X Y U W U j)
  left_last x = record { so = λ j h. along_path (x.so j h); has = λ j p. x.has j (path_along p refl) }

-- ---- a path from the starts stays within the positions of Y

pub pad_within : {X Y : ℕ → Block} {W m n i j : ℕ} → UpToEnd Y W → PadPath X Y m n i j → j ≤ W → n ≤ W
pad_within b (stay e f) h = omega arith
pad_within b (move (first l e f) p) h = pad_within b p (omega arith)
pad_within {Y = Y} {W = W} b (move {j = j} (second l e f) p) h = ⊎_elim
    (λ c. pad_within b p (let w = b.within j c in omega arith))
    (λ c. absurd (b.no_run (subst (λ (x : ℕ). (Y x).lower ≡ 0) (let z : j ≡ W = omega arith in z) l)))
    (lt_or_le j W)
pad_within {Y = Y} {W = W} b (move {j = j} (both m e f) p) h = ⊎_elim
    (λ c. pad_within b p (let a = after_on Y j (b.room j c) in omega arith))
    (λ c. pad_within b p (let at : j ≡ W = omega arith in let a = after_stays Y j (subst (λ (x : ℕ). (Y x).upper ≡ 0) (sym at) b.no_room) in omega arith))
    (lt_or_le j W)
