-- What keeps to a guide is on the right side of its text, and being on the right side is one of the two orders. Assumes
-- nothing.
use mathlib.Core.Path.{◌≡◌, refl, sym, ap, ◌∙◌, subst}
use mathlib.Core.Bool.{Bool, true, false}
use mathlib.Core.List.{List, [], ◌∷◌}
use Prim.Native.Nat.{ℕ, suc, ◌+◌, ◌-◌, ◌≤◌, ◌<◌}
use native.Mathlib.Omega.{arith}
use lib.ListN.{length, get_or, drop, length-drop, drop_of_length-le}
use Rattle.plain.specs.All.{All, more}
use Rattle.texts.specs.Order.{AtMost, Before}
use Rattle.texts.proofs.Rests.{rest_next}
use Rattle.extreme_steps.specs.declared.Direction.{Direction}
use Rattle.extreme_steps.specs.declared.Direction.TheVariants.{Least, Greatest}
use Rattle.order_sides.specs.Guide.{KeepsTo}
use Rattle.bases.specs.Base.{codes}
use Rattle.plain.proofs.Plain.{true_false}
use Rattle.order_guides.specs.Sides.{Beyond, lower, higher, Side, NextIs, PartsFrom, MayEnd}
use Rattle.order_guides.specs.Guide.{guide_of}
use Rattle.order_guides.proofs.Guide.{not_both, less_of, more_of, next_so, next_mark, apart_so, apart_mark, ends_so, ends_mark}

-- ---- the two orders, from either side

pub side_at_most : {t u : List ℕ} → Side Least false t u → AtMost t u
side_at_most (Side.level e) = AtMost.ends
side_at_most (Side.shorter e) = AtMost.ends
side_at_most (Side.longer e) = not_both e
side_at_most (Side.apart b) = AtMost.less (less_of b)
side_at_most (Side.same r) = AtMost.same (side_at_most r)

pub at_most_side : {t u : List ℕ} → AtMost t u → Side Least false t u
at_most_side {u = []} AtMost.ends = Side.level refl
at_most_side {u = e ∷ u} AtMost.ends = Side.shorter refl
at_most_side (AtMost.less h) = Side.apart (lower h)
at_most_side (AtMost.same r) = Side.same (at_most_side r)

pub side_before : {t u : List ℕ} → Side Least true t u → Before t u
side_before (Side.level e) = true_false e
side_before (Side.shorter e) = Before.ends
side_before (Side.longer e) = not_both e
side_before (Side.apart b) = Before.less (less_of b)
side_before (Side.same r) = Before.same (side_before r)

pub before_side : {t u : List ℕ} → Before t u → Side Least true t u
before_side Before.ends = Side.shorter refl
before_side (Before.less h) = Side.apart (lower h)
before_side (Before.same r) = Side.same (before_side r)

pub side_at_least : {t u : List ℕ} → Side Greatest false t u → AtMost u t
side_at_least (Side.level e) = AtMost.ends
side_at_least (Side.shorter e) = not_both (sym e)
side_at_least (Side.longer e) = AtMost.ends
side_at_least (Side.apart b) = AtMost.less (more_of b)
side_at_least (Side.same r) = AtMost.same (side_at_least r)

pub at_least_side : {t u : List ℕ} → AtMost u t → Side Greatest false t u
at_least_side {t = []} AtMost.ends = Side.level refl
at_least_side {t = c ∷ t} AtMost.ends = Side.longer refl
at_least_side (AtMost.less h) = Side.apart (higher h)
at_least_side (AtMost.same r) = Side.same (at_least_side r)

pub side_after : {t u : List ℕ} → Side Greatest true t u → Before u t
side_after (Side.level e) = true_false e
side_after (Side.shorter e) = not_both (sym e)
side_after (Side.longer e) = Before.ends
side_after (Side.apart b) = Before.less (more_of b)
side_after (Side.same r) = Before.same (side_after r)

pub after_side : {t u : List ℕ} → Before u t → Side Greatest true t u
after_side Before.ends = Side.longer refl
after_side (Before.less h) = Side.apart (higher h)
after_side (Before.same r) = Side.same (after_side r)

-- ---- the rest of T

drop_zero : (l : List ℕ) → drop 0 l ≡ l
drop_zero [] = refl
drop_zero (c ∷ l) = refl

-- by its first symbol
some_left : (T : List ℕ) (q e : ℕ) (u : List ℕ) → e ∷ u ≡ drop q T → (q < length T) × (e ≡ get_or T q 0) × (u ≡ drop (q + 1) T)
some_left T q e u x =
    let n : suc (length u) ≡ length T - q = ap length x ∙ length-drop q T in
    let l : q < length T = omega arith in
    let y : e ∷ u ≡ get_or T q 0 ∷ drop (q + 1) T = x ∙ rest_next T q l in
    (l, (cc), (cc))

none_left : (T : List ℕ) (q : ℕ) → [] ≡ drop q T → q ≤ length T → q ≡ length T
none_left T q x h = let n : 0 ≡ length T - q = ap length x ∙ length-drop q T in omega arith

-- ---- what keeps to a guide

module _ (d : Direction) (strict : Bool) (T : List ℕ) where
  -- one symbol of T at a time
  ended : (q : ℕ) → MayEnd d strict T q → Side d strict [] (drop q T)
  ended q (MayEnd.shorter e l) = subst (Side d strict []) (sym (rest_next T q l)) (Side.shorter e)
  ended q (MayEnd.level e l) = subst (Side d strict []) (sym (drop_of_length-le T (let z : length T ≤ q = omega arith in z))) (Side.level e)

  parted : (q c : ℕ) (t : List ℕ) → PartsFrom d T q c → Side d strict (c ∷ t) (drop q T)
  parted q c t (PartsFrom.beyond l b) = subst (Side d strict (c ∷ t)) (sym (rest_next T q l)) (Side.apart b)
  parted q c t (PartsFrom.longer e l) = subst (Side d strict (c ∷ t)) (sym (drop_of_length-le T l)) (Side.longer e)

  stayed : (q c : ℕ) (t : List ℕ) → NextIs T q c → Side d strict t (drop (q + 1) T) → Side d strict (c ∷ t) (drop q T)
  stayed q c t n r = subst (Side d strict (c ∷ t)) (sym (rest_next T q n.within))
      (subst (λ (z : ℕ). Side d strict (c ∷ t) (z ∷ drop (q + 1) T)) n.same (Side.same r))

  keeps_side : {q : ℕ} {t : List ℕ} → q ≤ length T → KeepsTo (guide_of d strict T) q t → Side d strict t (drop q T)
  keeps_side {q} h (KeepsTo.ends n) = ended q (ends_so T q d strict h n)
  keeps_side {q} {t = c ∷ t} h (KeepsTo.apart k) = parted q c t (apart_so T q d c k)
  keeps_side {q} {t = c ∷ t} h (KeepsTo.same k r) =
      let n = next_so T q c k in
      let w = n.within in
      stayed q c t n (keeps_side (omega arith) r)

  side_keeps : {t u : List ℕ} → Side d strict t u → (q : ℕ) → u ≡ drop q T → q ≤ length T → All (λ c. c < codes) t → KeepsTo (guide_of d strict T) q t
  side_keeps (Side.level e) q x h a = KeepsTo.ends (ends_mark T q d strict (MayEnd.level e (none_left T q x h)))
  side_keeps (Side.shorter {e = e} {u = u} z) q x h a = KeepsTo.ends (ends_mark T q d strict (MayEnd.shorter z (some_left T q e u x).0))
  side_keeps (Side.longer {c = c} z) q x h (more s a) = KeepsTo.apart (apart_mark T q d c (omega arith) (PartsFrom.longer z (let n = none_left T q x h in omega arith)))
  side_keeps (Side.apart {c = c} {e = e} {u = u} b) q x h (more s a) =
      let l = some_left T q e u x in
      KeepsTo.apart (apart_mark T q d c (omega arith) (PartsFrom.beyond l.0 (subst (Beyond d c) l.1 b)))
  side_keeps (Side.same {c = c} {u = u} r) q x h (more s a) =
      let l = some_left T q c u x in
      let w = l.0 in
      KeepsTo.same (next_mark T q c (record { within = w; same = l.1 })) (side_keeps r (q + 1) l.2 (omega arith) a)

  pub guide_side : {t : List ℕ} → KeepsTo (guide_of d strict T) 0 t → Side d strict t T
  guide_side {t} k = subst (Side d strict t) (drop_zero T) (keeps_side (omega arith) k)

  pub side_guide : {t : List ℕ} → All (λ c. c < codes) t → Side d strict t T → KeepsTo (guide_of d strict T) 0 t
  side_guide a r = side_keeps r 0 (sym (drop_zero T)) (omega arith) a
