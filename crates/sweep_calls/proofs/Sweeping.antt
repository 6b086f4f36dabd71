-- The sweep's promise: from the steps, and one outcome for one input. Assumes nothing.
use mathlib.Core.Path.{◌≡◌, sym, ap, ◌∙◌, subst₂}
use mathlib.Core.List.{List}
use Prim.Native.Nat.{ℕ, ◌*◌, ◌≤◌}
use lib.ListN.{length}
use Rattle.answers.specs.Told.{Told}
use Rattle.answers.specs.Turns.{in_turn}
use Rattle.std.specs.Prelude.{Result, Ok, Err}
use Rattle.answers.specs.declared.Refusal.{Refusal}
use Rattle.answers.specs.declared.Swept.{Swept}
use Rattle.answers.proofs.Told.{told_one}
use Rattle.answers.proofs.Turns.{OneOf, need_one, in_turn_one}
use Rattle.shapes.specs.Lent.{shape_of}
use Rattle.pairs.specs.Pair.{PairAccepted}
use Rattle.pairs.proofs.Pair.{of_pair_lem}
use Rattle.sweep_steps.specs.Steps.{sweep_of}
use Rattle.sweep_passes.specs.Read.{swept_of, output_of}
use Rattle.sweeps.specs.Meaning.{Means}
use Rattle.sweeps.proofs.Meaning.{means}
use Rattle.sweep_calls.specs.Sweep.{sweep_turns, SweepRefused, SweepDone, SweepPromise}

module _ (xs ys out : List ℕ) where
  pub promised : (out' : List ℕ) (r : Swept) → PairAccepted xs ys → 2 * length (shape_of xs) ≤ length out → r ≡ swept_of (sweep_of (shape_of xs) (shape_of ys))
      → out' ≡ output_of (sweep_of (shape_of xs) (shape_of ys)) out → SweepDone xs ys out out' r
  promised out' r a h e o =
      record {
        accepted = a;
        room = h;
        answer = e;
        output = o;
        meaning = subst₂ (Means (shape_of xs) (shape_of ys)) (sym e) (sym o) (means (shape_of xs) (shape_of ys) out);
      }

  of_sweep : OneOf (in_turn (PairAccepted xs ys × (2 * length (shape_of xs) ≤ length out)) (sweep_turns xs ys (length out)))
  of_sweep = in_turn_one (sweep_turns xs ys (length out)) (of_pair_lem, (need_one, tt)) (λ (ok, r). (ok, (r, tt)))

  pub one_refusal : {t u : Told} → SweepRefused xs ys (length out) t → SweepRefused xs ys (length out) u → t ≡ u
  one_refusal p q = of_sweep.one p q

  pub not_due : {t : Told} → SweepRefused xs ys (length out) t → PairAccepted xs ys → 2 * length (shape_of xs) ≤ length out → ⊥
  not_due p a h = of_sweep.not p (a, h)

  refused_not : {t : Told} {out' : List ℕ} {r : Swept} → SweepRefused xs ys (length out) t → SweepDone xs ys out out' r → ⊥
  refused_not p d = not_due p d.accepted d.room

  pub sweep_determined : (out' out'' : List ℕ) (r s : Result Swept Refusal) → SweepPromise xs ys out out' r → SweepPromise xs ys out out'' s → (r ≡ s) × (out' ≡ out'')
  sweep_determined out' out'' (Ok r) (Ok s) p q = (ap Ok (p.answer ∙ sym q.answer), p.output ∙ sym q.output)
  sweep_determined out' out'' (Ok r) (Err s) p q = absurd (refused_not q.0 p)
  sweep_determined out' out'' (Err r) (Ok s) p q = absurd (refused_not p.0 q)
  sweep_determined out' out'' (Err r) (Err s) p q = (ap Err (told_one r s (one_refusal p.0 q.0)), p.1 ∙ sym q.1)
