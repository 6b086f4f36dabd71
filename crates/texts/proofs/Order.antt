-- The order of texts is total, and "before" is its strict part. Assumes nothing.
use mathlib.Core.Path.{◌≡◌, refl, sym, ap, subst}
use mathlib.Core.List.{List, [], ◌∷◌, ◌++◌}
use mathlib.Core.Logic.{◌⊎◌, inl, inr, ⊎_elim}
use Prim.Native.Nat.{ℕ, ◌≤◌, ◌<◌}
use native.Mathlib.Nat.{lt_trans}
use native.Mathlib.Omega.{arith}
use Rattle.plain.proofs.Plain.{lt_or_le}
use Rattle.texts.specs.Order.{AtMost, Before}
use Rattle.texts.specs.Order.AtMost.{ends as at-ends, less as at_less, same as at_same}
use Rattle.texts.specs.Order.Before.{ends, less, same}

-- ---- two texts by their first characters

pub at_most_nil : {c : ℕ} {t : List ℕ} → AtMost (c ∷ t) [] → ⊥
at_most_nil = elim [ ]

pub before_nil : {t : List ℕ} → Before t [] → ⊥
before_nil = elim [ ]

pub at_most_head : {c d : ℕ} {t u : List ℕ} → AtMost (c ∷ t) (d ∷ u) → c ≤ d
at_most_head (at_less h) = omega arith
at_most_head (at_same h) = omega arith

pub at_most_tail : {c d : ℕ} {t u : List ℕ} → AtMost (c ∷ t) (d ∷ u) → c ≡ d → AtMost t u
at_most_tail (at_less h) e = absurd (omega arith)
at_most_tail (at_same h) e = h

pub before_head : {c d : ℕ} {t u : List ℕ} → Before (c ∷ t) (d ∷ u) → c ≤ d
before_head (less h) = omega arith
before_head (same h) = omega arith

pub before_tail : {c d : ℕ} {t u : List ℕ} → Before (c ∷ t) (d ∷ u) → c ≡ d → Before t u
before_tail (less h) e = absurd (omega arith)
before_tail (same h) e = h

-- ---- a total order

pub at_most_refl : (t : List ℕ) → AtMost t t
at_most_refl [] = at-ends
at_most_refl (c ∷ t) = at_same (at_most_refl t)

pub at_most_trans : {t u v : List ℕ} → AtMost t u → AtMost u v → AtMost t v
at_most_trans at-ends q = at-ends
at_most_trans (at_less h) (at_less g) = at_less (lt_trans h g)
at_most_trans (at_less h) (at_same g) = at_less h
at_most_trans (at_same p) (at_less g) = at_less g
at_most_trans (at_same p) (at_same q) = at_same (at_most_trans p q)

pub at_most_antisym : {t u : List ℕ} → AtMost t u → AtMost u t → t ≡ u
at_most_antisym {t = []} {u = []} p q = refl
at_most_antisym {t = []} {u = d ∷ u} p q = absurd (at_most_nil q)
at_most_antisym {t = c ∷ t} {u = []} p q = absurd (at_most_nil p)
at_most_antisym {t = c ∷ t} {u = d ∷ u} p q =
    let h = at_most_head p in
    let g = at_most_head q in
    let e : c ≡ d = omega arith in
    subst (λ (x : ℕ). c ∷ t ≡ x ∷ u) e (ap (λ (l : List ℕ). c ∷ l) (at_most_antisym (at_most_tail p e) (at_most_tail q (sym e))))

pub before_at_most : {t u : List ℕ} → Before t u → AtMost t u
before_at_most ends = at-ends
before_at_most (less h) = at_less h
before_at_most (same p) = at_same (before_at_most p)

pub not_before : {t u : List ℕ} → AtMost t u → Before u t → ⊥
not_before {t = []} p q = before_nil q
not_before {t = c ∷ t} {u = []} p q = at_most_nil p
not_before {t = c ∷ t} {u = d ∷ u} p q =
    let h = at_most_head p in
    let g = before_head q in
    let e : c ≡ d = omega arith in
    not_before (at_most_tail p e) (before_tail q (sym e))

pub at_most_or_before : (t u : List ℕ) → AtMost t u ⊎ Before u t
at_most_or_before [] u = inl at-ends
at_most_or_before (c ∷ t) [] = inr ends
at_most_or_before (c ∷ t) (d ∷ u) = step (lt_or_le c d) (at_most_or_before t u)
  where
    step : (c < d) ⊎ (d ≤ c) → AtMost t u ⊎ Before u t → AtMost (c ∷ t) (d ∷ u) ⊎ Before (d ∷ u) (c ∷ t)
    step (inl h) r = inl (at_less h)
    step (inr h) r = ⊎_elim (λ g. inr (less g)) (λ g. level (omega arith) r) (lt_or_le d c)
      where
        level : c ≡ d → AtMost t u ⊎ Before u t → AtMost (c ∷ t) (d ∷ u) ⊎ Before (d ∷ u) (c ∷ t)
        level e (inl p) = inl (subst (λ (x : ℕ). AtMost (c ∷ t) (x ∷ u)) e (at_same p))
        level e (inr p) = inr (subst (λ (x : ℕ). Before (x ∷ u) (c ∷ t)) e (same p))

pub before_trans : {t u v : List ℕ} → Before t u → AtMost u v → Before t v
before_trans ends (at_less h) = ends
before_trans ends (at_same q) = ends
before_trans (less h) (at_less g) = less (lt_trans h g)
before_trans (less h) (at_same q) = less h
before_trans (same p) (at_less g) = less g
before_trans (same p) (at_same q) = same (before_trans p q)

pub before_trans' : {t u v : List ℕ} → AtMost t u → Before u v → Before t v
before_trans' at-ends ends = ends
before_trans' at-ends (less h) = ends
before_trans' at-ends (same q) = ends
before_trans' (at_less h) (less g) = less (lt_trans h g)
before_trans' (at_less h) (same q) = less h
before_trans' (at_same p) (less g) = less g
before_trans' (at_same p) (same q) = same (before_trans' p q)

-- ---- a text and it with more behind it

pub before_itself : (t u : List ℕ) (c : ℕ) → Before t (t ++ (c ∷ u))
before_itself [] u c = ends
before_itself (d ∷ t) u c = same (before_itself t u c)

pub not_back : (t u : List ℕ) (c : ℕ) → AtMost (t ++ (c ∷ u)) t → ⊥
not_back [] u c x' = elim x' [ ]
not_back (d ∷ t) u c p = not_back t u c (at_most_tail p refl)
