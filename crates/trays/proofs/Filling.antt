-- The row of a tray, filled record by record. Assumes nothing.
use mathlib.Core.Path.{◌≡◌, refl, sym, ◌∙◌, ap, subst}
use mathlib.Core.List.{List}
use mathlib.Core.Logic.{◌⊎◌, inl, inr}
use Prim.Native.Nat.{ℕ, ◌+◌, ◌<◌}
use native.Mathlib.Nat.{eq-or-lt_of_le}
use native.Mathlib.Omega.{arith}
use lib.ListN.{length, get_or, set, drop, length-set}
use lib.Seq.{get_or-set_same, get_or-set_other, drop-set-lt, drop-drop}
use Rattle.answers.specs.declared.AnswerRecord.{AnswerRecord}
use Rattle.tray_pairs.specs.Judged.{Judged}
use Rattle.tray_pairs.specs.Ranges.{pair_at}
use Rattle.trays.specs.Tray.{Filled}

pub none_yet : (blocks pairs : List ℕ) (ys : List AnswerRecord) → Filled blocks pairs 0 ys ys
none_yet blocks pairs ys = record { same_length = refl; judged = λ i h d. absurd (omega (arith, h)); others = refl }

pub one_more : (blocks pairs : List ℕ) (i : ℕ) (ys zs : List AnswerRecord) (r : AnswerRecord) → Filled blocks pairs i ys zs → i < length zs → Judged blocks (pair_at pairs i) r
    → Filled blocks pairs (i + 1) ys (set zs i r)
one_more blocks pairs i ys zs r f within p = record {
  same_length = length-set zs i r ∙ f.same_length;
  judged = λ j h d. pick j d (eq-or-lt_of_le (omega (arith, h)));
  others = drop-set-lt (i + 1) zs i r (omega arith) ∙ sym (drop-drop 1 i zs) ∙ ap (drop 1) f.others ∙ drop-drop 1 i ys;
}
  where
    pick : (j : ℕ) (d : AnswerRecord) → (j ≡ i) ⊎ (j < i) → Judged blocks (pair_at pairs j) (get_or (set zs i r) j d)
    pick j d (inl e) =
        subst (λ (k : ℕ). Judged blocks (pair_at pairs k) (get_or (set zs i r) k d)) (sym e) (subst (Judged blocks (pair_at pairs i)) (sym (get_or-set_same zs i r d within)) p)
    pick j d (inr l) = subst (Judged blocks (pair_at pairs j)) (sym (get_or-set_other zs i j r d (λ e. omega (arith, e, l)))) (f.judged j l d)
