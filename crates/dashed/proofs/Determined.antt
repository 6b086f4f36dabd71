-- For any one input, two permitted outcomes of a call are equal: the answer with its refusal, and every lent cell.
-- Assumes nothing.
use Rattle.std.specs.Prelude.{Result, Ok, Err}
use mathlib.Core.Path.{◌≡◌, refl, sym, ap, ◌∙◌}
use mathlib.Core.List.{List, ◌++◌}
use mathlib.Core.Logic.{⊎_elim}
use Prim.Native.Nat.{ℕ}
use lib.ListN.{drop}
use Rattle.answers.specs.Told.{told}
use Rattle.answers.proofs.Told.{told_one}
use Rattle.answers.specs.declared.Refusal.{Refusal}
use Rattle.answers.specs.declared.Fit.{Fit}
use Rattle.answers.specs.declared.Fit.TheVariants.{Fits, Unfit}
use Rattle.extreme_steps.specs.declared.Direction.{Direction}
use Rattle.extreme_steps.specs.Steps.{extreme}
use Rattle.extremes.specs.Extreme.{ExtremePromise}
use Rattle.extremes.proofs.Refused.{text_one, text_not}
use Rattle.shapes.specs.Lent.{shape_of, ShapeRefused}
use Rattle.shapes.proofs.Refused.{shape_one, shape_not}
use Rattle.texts.proofs.Order.{at_most_or_before}
use Rattle.dashed.specs.Promises.{CheckShape, FitsShape, Earlier}

one_refusal : (xs : List ℕ) (r s : Refusal) → ShapeRefused 1 xs (told r) → ShapeRefused 1 xs (told s) → r ≡ s
one_refusal xs r s p q = told_one r s (shape_one p q)

pub check_shape_determined : (xs : List ℕ) (a b : Result Unit Refusal) → CheckShape xs a → CheckShape xs b → a ≡ b
check_shape_determined xs (Ok _) (Ok _) p q = refl
check_shape_determined xs (Ok _) (Err r) p q = absurd (shape_not q p)
check_shape_determined xs (Err r) (Ok _) p q = absurd (shape_not p q)
check_shape_determined xs (Err r) (Err s) p q = ap Err (one_refusal xs r s p q)

pub fits_determined : (xs t : List ℕ) (a b : Result Fit Refusal) → FitsShape xs t a → FitsShape xs t b → a ≡ b
fits_determined xs t (Ok Fits) (Ok Fits) p q = refl
fits_determined xs t (Ok Fits) (Ok Unfit) p q = absurd (q.1 p.1)
fits_determined xs t (Ok Fits) (Err r) p q = absurd (shape_not q p.0)
fits_determined xs t (Ok Unfit) (Ok Fits) p q = absurd (p.1 q.1)
fits_determined xs t (Ok Unfit) (Ok Unfit) p q = refl
fits_determined xs t (Ok Unfit) (Err r) p q = absurd (shape_not q p.0)
fits_determined xs t (Err r) (Ok Fits) p q = absurd (shape_not p q.0)
fits_determined xs t (Err r) (Ok Unfit) p q = absurd (shape_not p q.0)
fits_determined xs t (Err r) (Err s) p q = ap Err (one_refusal xs r s p q)

pub earlier_determined : {Lent : Type 0} (a b : List ℕ) {x y r s : Lent} → Earlier a b x y r → Earlier a b x y s → r ≡ s
earlier_determined a b p q = ⊎_elim (λ h. p.first h ∙ sym (q.first h)) (λ h. p.second h ∙ sym (q.second h)) (at_most_or_before a b)

-- ---- least and greatest text: the answer, and the output

pub extreme_determined : (d : Direction) (xs out out' out'' : List ℕ) (a b : Result ℕ Refusal) → ExtremePromise d xs out out' a → ExtremePromise d xs out out'' b → (a ≡ b) × (out' ≡ out'')
extreme_determined d xs out out' out'' (Ok n) (Ok m) p q =
    let same : n ≡ m = p.length_is ∙ sym q.length_is in
    (ap Ok same, p.bytes ∙ ap (λ (k : ℕ). extreme d (shape_of xs) ++ drop k out) same ∙ sym q.bytes)
extreme_determined d xs out out' out'' (Ok n) (Err r) p q = absurd (text_not q.0 p.accepted p.room)
extreme_determined d xs out out' out'' (Err r) (Ok m) p q = absurd (text_not p.0 q.accepted q.room)
extreme_determined d xs out out' out'' (Err r) (Err s) p q = (ap Err (told_one r s (text_one p.0 q.0)), p.1 ∙ sym q.1)
