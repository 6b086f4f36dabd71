-- The record of a pair: one refusal, one record, and that of the single call. Assumes nothing.
use mathlib.Core.Path.{◌≡◌, refl, sym, ap, ◌∙◌, subst}
use mathlib.Core.List.{List, []}
use mathlib.Core.Logic.{inr}
use Prim.Native.Nat.{ℕ, ◌+◌, ◌*◌, ◌≤◌}
use native.Mathlib.Omega.{arith}
use lib.ListN.{length}
use Rattle.std.specs.Prelude.{Result, Ok, Err}
use Rattle.answers.specs.Told.{Told, told}
use Rattle.answers.specs.Turns.{here, later, in_turn}
use Rattle.answers.specs.declared.AnswerRecord.{AnswerRecord}
use Rattle.answers.specs.declared.Refusal.{Refusal}
use Rattle.answers.specs.declared.Refusal.TheVariants.{Range}
use Rattle.answers.specs.declared.Swept.{Swept}
use Rattle.answers.specs.declared.SweepVerdict.{SweepVerdict}
use Rattle.answers.specs.declared.Swept.TheVariants.{Cannot}
use Rattle.answers.proofs.Told.{told_one}
use Rattle.answers.proofs.Turns.{OneOf, need_one, in_turn_one, lacks}
use Rattle.shapes.specs.Shape.{Fits, block_count}
use Rattle.shapes.specs.Lent.{shape_of}
use Rattle.pairs.specs.Pair.{PairRefused}
use Rattle.shapes.proofs.Refused.{of_shape_lem, Other, numbered}
use Rattle.pairs.proofs.Pair.{pair_other}
use Rattle.sweep_steps.specs.Steps.{Found, places, cannot, looks_of, sweep_of}
use Rattle.sweep_steps.proofs.Looks.{looks_bounded}
use Rattle.sweep_passes.specs.Read.{swept_of}
use Rattle.sweeps.proofs.Meaning.{means}
use Rattle.sweep_calls.specs.Sweep.{SweepRefused, SweepPromise}
use Rattle.tray_pairs.specs.Ranges.{RangeInside, lent_in}
use Rattle.tray_pairs.specs.Code.{SweptAlone}
use Rattle.tray_pairs.specs.Judged.{recorded, record_turns, RecordRefused, RecordAccepted, Judged}
use Rattle.tray_pairs.specs.Judged.Judged.{swept, refused}
use Rattle.tray_pairs.specs.declared.Pair.{Pair}

-- the single call, where its places have room
pub alone : (xs ys out out' : List ℕ) (s : Result Swept Refusal) → 2 * length (shape_of xs) ≤ length out → SweepPromise xs ys out out' s → SweptAlone xs ys s
alone xs ys out out' (Ok s) room p = (p.accepted, p.answer)
alone xs ys out out' (Err q) room p = of_shapes (told q) p.0
  where
    of_shapes : (t : Told) → SweepRefused xs ys (length out) t → PairRefused xs ys t
    of_shapes t (here d) = d
    of_shapes t (later a (later _ x5)) = elim x5 [ ]
    of_shapes t (later a (here l)) = absurd (l.lacking room)

-- what is refused is not what the steps find, and is refused one way
not_found : (q : Refusal) (f : Found) → Err q ≡ (recorded (Ok (swept_of f))).verdict → ⊥
not_found q (places qs k) e = let z : ◌≡◌ {A = ℕ} 0 1 = cc in omega arith
not_found q (cannot k) e = let z : ◌≡◌ {A = ℕ} 0 1 = cc in omega arith

is_cannot : (f : Found) → (recorded (Ok (swept_of f))).verdict ≡ Ok SweepVerdict.Cannot → (k : ℕ) × (swept_of f ≡ Cannot k)
is_cannot (places qs k) e = absurd (let z : ◌≡◌ {A = ℕ} 0 1 = cc in omega arith)
is_cannot (cannot k) e = (k, refl)

refused_not_cannot : {q : Refusal} → ◌≡◌ {A = Result SweepVerdict Refusal} (Err q) (Ok SweepVerdict.Cannot) → ⊥
refused_not_cannot e = let z : ◌≡◌ {A = ℕ} 0 1 = cc in omega arith

looks_of_lem : (f : Found) → (recorded (Ok (swept_of f))).looks ≡ looks_of f
looks_of_lem (places qs k) = refl
looks_of_lem (cannot k) = refl

same_verdict : {q u : Refusal} → recorded (Err q) ≡ recorded (Err u) → q ≡ u
same_verdict e = let v = ap (λ (r : AnswerRecord). r.verdict) e in cc

module _ (blocks : List ℕ) (p : Pair) where
  of_record : OneOf (in_turn (RecordAccepted blocks p) (record_turns blocks p))
  of_record = in_turn_one (record_turns blocks p) (need_one, (need_one, (of_shape_lem, (of_shape_lem, tt)))) (λ a. (a.first, (a.second, (a.shapes.first, (a.shapes.second, tt)))))

  pub record_refused_one : {t u : Told} → RecordRefused blocks p t → RecordRefused blocks p u → t ≡ u
  record_refused_one d e = of_record.one d e

  pub record_refused_not : {t : Told} → RecordRefused blocks p t → RecordAccepted blocks p → ⊥
  record_refused_not d a = of_record.not d a

  -- the numbers that a refused record may tell: the whole call's are none of them
  pub never : (m : ℕ) → Other m → (14 ≡ m → ⊥) → (t : Told) → RecordRefused blocks p t → t.number ≡ m → ⊥
  never m o f t (here d) n = f (numbered d.tells n)
  never m o f t (later i (here d)) n = f (numbered d.tells n)
  never m o f t (later i (later j d)) n = pair_other o d n

  pub fourteen_only : (t : Told) → RecordRefused blocks p t → t.number ≡ 14 → RangeInside (block_count blocks) p.x → RangeInside (block_count blocks) p.y → ⊥
  fourteen_only t (here d) n i j = d.lacking i
  fourteen_only t (later _ (here d)) n i j = d.lacking j
  fourteen_only t (later _ (later _ d)) n i j = pair_other (omega arith, inr (omega arith)) d n

  -- a refused record: its refusal is the one that is due
  pub record_refused : (q : Refusal) → Judged blocks p (recorded (Err q)) → RecordRefused blocks p (told q)
  record_refused q (swept a e) = absurd (not_found q (sweep_of (shape_of (lent_in blocks p.x)) (shape_of (lent_in blocks p.y))) (ap (λ (r : AnswerRecord). r.verdict) e))
  record_refused q (refused u d e) = subst (λ (v : Refusal). RecordRefused blocks p (told v)) (sym (same_verdict e)) d

  pub no_looks : {r : AnswerRecord} (q : Refusal) → Judged blocks p r → r.verdict ≡ Err q → r.looks ≡ 0
  no_looks q (swept a e) v =
      absurd (not_found q (sweep_of (shape_of (lent_in blocks p.x)) (shape_of (lent_in blocks p.y))) (sym v ∙ ap (λ (r : AnswerRecord). r.verdict) e))
  no_looks q (refused u d e) v = ap (λ (r : AnswerRecord). r.looks) e

  -- what the sweep's answer is worth, and its looks
  pub cannot_sound : {r : AnswerRecord} → Judged blocks p r → r.verdict ≡ Ok SweepVerdict.Cannot
      → (t : List ℕ) → Fits (shape_of (lent_in blocks p.x)) t → Fits (shape_of (lent_in blocks p.y)) t → ⊥
  cannot_sound (swept a e) v =
      let x = shape_of (lent_in blocks p.x) in
      let y = shape_of (lent_in blocks p.y) in
      let c = is_cannot (sweep_of x y) (sym (ap (λ (r : AnswerRecord). r.verdict) e) ∙ v) in
      (means x y []).none c.0 c.1
  cannot_sound (refused q d e) v = absurd (refused_not_cannot (sym (ap (λ (r : AnswerRecord). r.verdict) e) ∙ v))

  pub few_looks : {r : AnswerRecord} → Judged blocks p r → r.looks ≤ 2 * (length (shape_of (lent_in blocks p.x)) + length (shape_of (lent_in blocks p.y)))
  few_looks (swept a e) =
      let x = shape_of (lent_in blocks p.x) in
      let y = shape_of (lent_in blocks p.y) in
      subst (λ (k : ℕ). k ≤ 2 * (length x + length y)) (sym (ap (λ (r : AnswerRecord). r.looks) e ∙ looks_of_lem (sweep_of x y))) (looks_bounded x y)
  few_looks (refused q d e) = let z = ap (λ (r : AnswerRecord). r.looks) e in omega (arith, z)

  pub judged_one : {r s : AnswerRecord} → Judged blocks p r → Judged blocks p s → r ≡ s
  judged_one (swept a e) (swept b f) = e ∙ sym f
  judged_one (swept a e) (refused q d f) = absurd (record_refused_not d a)
  judged_one (refused q d e) (swept b f) = absurd (record_refused_not d b)
  judged_one (refused q d e) (refused u c f) = e ∙ ap (λ (v : Refusal). recorded (Err v)) (told_one q u (record_refused_one d c)) ∙ sym f

  -- the ranges are inside: the answer is the sweep's
  pub inside_judged : RangeInside (block_count blocks) p.x → RangeInside (block_count blocks) p.y → (s : Result Swept Refusal) → SweptAlone (lent_in blocks p.x) (lent_in blocks p.y) s → Judged blocks p (recorded s)
  inside_judged i j (Ok s) d = swept (record { first = i; second = j; shapes = d.0 }) (ap (λ (t : Swept). recorded (Ok t)) d.1)
  inside_judged i j (Err q) d = refused q (later i (later j d)) refl

  pub first_outside : (RangeInside (block_count blocks) p.x → ⊥) → Judged blocks p (recorded (Err (Range 1)))
  first_outside o = refused (Range 1) (here (lacks o)) refl

  pub second_outside : RangeInside (block_count blocks) p.x → (RangeInside (block_count blocks) p.y → ⊥) → Judged blocks p (recorded (Err (Range 2)))
  second_outside i o = refused (Range 2) (later i (here (lacks o))) refl

  -- equal to what a single call gives
  pub as_single : (out out' : List ℕ) (r : AnswerRecord) (s : Result Swept Refusal) → RangeInside (block_count blocks) p.x → RangeInside (block_count blocks) p.y → 2 * length (shape_of (lent_in blocks p.x)) ≤ length out
      → SweepPromise (lent_in blocks p.x) (lent_in blocks p.y) out out' s → Judged blocks p r → r ≡ recorded s
  as_single out out' r s i j h d e = judged_one e (inside_judged i j s (alone (lent_in blocks p.x) (lent_in blocks p.y) out out' s h d))
