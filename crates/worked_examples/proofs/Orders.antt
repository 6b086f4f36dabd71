-- For the rows under "before": the extreme texts of one block of a's, and the two sides of P7. Assumes nothing.
use mathlib.Core.Path.{◌≡◌, refl, ap}
use mathlib.Core.Bool.{true}
use mathlib.Core.List.Memᴰ
use mathlib.Core.List.{List, [], ◌∷◌}
use Prim.Native.Nat.{ℕ, ◌≤◌}
use native.Mathlib.Omega.{arith}
use lib.Dec.{lit<}
use lib.Count.{count_leading_zeros, count_trailing_zeros}
use Rattle.bases.specs.Base.{Holds, Empty, least_of, greatest_of}
use Rattle.bases.proofs.Laws.{least_of_lem, greatest_of_lem, none_in_zero}
use Rattle.plain.specs.All.{All, more}
use Rattle.shapes.specs.Shape.{Run, text_of}
use Rattle.plain.proofs.All.{all_head}
use Rattle.texts.specs.Order.{Before}
use Rattle.texts.proofs.Order.{before_nil, before_tail}
use Rattle.extreme_steps.specs.declared.Direction.{Direction}
use Rattle.extreme_steps.specs.Steps.{extreme}
use Rattle.extremes.specs.Extreme.{Extreme}
use Rattle.extremes.proofs.Best.{is_extreme}
use Rattle.hulls.specs.Hull.{Hull}
use Rattle.worked_examples.specs.Letters.{a, empty, block}
use Rattle.worked_examples.proofs.Soundness.{all_sound, all_sound_by}
use Rattle.worked_examples.proofs.OneRun.{one_run}

-- the base a holds the character 97 only
a_held : Holds a 97
unfolding Holds
a_held = refl

pub a_only : (c : ℕ) → Holds a c → c ≡ 97
unfolding least_of greatest_of count_leading_zeros count_trailing_zeros Empty
a_only c h =
    let low : 97 ≤ c = (least_of_lem a (lit< tt) (λ n. n 97 a_held)).least c h in
    let high : c ≤ 97 = (greatest_of_lem a (lit< tt) (λ n. n 97 a_held)).greatest c h in
    omega arith

-- the least or the greatest text of one block of a's is the one that the steps give
pub extreme_a : (d : Direction) (l u : ℕ) → all_sound (block a l u ∷ []) ≡ true → Extreme d (block a l u ∷ []) (extreme d (block a l u ∷ []))
extreme_a d l u ok = is_extreme d (more (lit< tt) All.none) (all_sound_by (block a l u ∷ []) ok)

-- ---- P7, X: before the text a there is only the empty one

only_empty : (q : List ℕ) → Run (block a 0 2) q → Before (text_of (q ∷ [])) (97 ∷ []) → q ≡ []
unfolding text_of
only_empty [] run p = refl
only_empty (c ∷ q) run p = absurd (before_nil (before_tail p (a_only c (all_head run.held))))

pub first_side : Hull (λ f. Before (text_of f) (97 ∷ [])) (block a 0 2 ∷ []) (block empty 0 0 ∷ [])
unfolding text_of Empty
first_side = one_run [] (record { held = All.none; enough = omega arith; bounded = omega arith }) Before.ends only_empty
    (block empty 0 0) All.none (λ c g. absurd (none_in_zero c g)) refl refl

-- ---- P7, Y: after the empty text there is only the text a

only_a : (q : List ℕ) → Run (block a 0 1) q → Before [] (text_of (q ∷ [])) → q ≡ 97 ∷ []
unfolding text_of
only_a [] run p = absurd (before_nil p)
only_a (c ∷ []) run p = ap (λ (x : ℕ). x ∷ []) (a_only c (all_head run.held))
only_a (c ∷ (d ∷ q)) run p = absurd (let l = run.bounded in omega arith)

pub second_side : Hull (λ g. Before [] (text_of g)) (block a 0 1 ∷ []) (block a 1 1 ∷ [])
unfolding text_of
second_side = one_run (97 ∷ []) (record { held = more a_held All.none; enough = omega arith; bounded = omega arith }) Before.ends only_a
    (block a 1 1) (more a_held All.none) (λ c g. Memᴰ.head (a_only c g)) refl refl
