-- Laws of `All`: over parts and joins of lists, and read by index. Assumes nothing.
use mathlib.Core.List.{List, [], ◌∷◌, ◌++◌}
use Prim.Native.Nat.{ℕ, zero, suc, ◌+◌, ◌<◌}
use native.Mathlib.Numerals.{add-one}
use native.Mathlib.Omega.{arith}
use lib.ListN.{length, get_or, take, drop}
use lib.Seq.{take-suc}
use Rattle.plain.specs.All.{All}
use Rattle.plain.specs.All.All.{none, more}

module _ {A : Type 0} {P : A → Type 0} where
  pub all_head : {a : A} {l : List A} → All P (a ∷ l) → P a
  all_head (more p h) = p

  pub all_tail : {a : A} {l : List A} → All P (a ∷ l) → All P l
  all_tail (more p h) = h

  pub all_append : {l m : List A} → All P l → All P m → All P (l ++ m)
  all_append none h = h
  all_append (more p g) h = more p (all_append g h)

  pub all_left : (l m : List A) → All P (l ++ m) → All P l
  all_left [] m h = none
  all_left (a ∷ l) m (more p h) = more p (all_left l m h)

  pub all_right : (l m : List A) → All P (l ++ m) → All P m
  all_right [] m h = h
  all_right (a ∷ l) m (more p h) = all_right l m h

  pub all_at : {l : List A} (d : A) → All P l → (i : ℕ) → i < length l → P (get_or l i d)
  all_at d none i h = absurd (omega arith)
  all_at d (more p g) zero h = p
  all_at d (more p g) (suc i) h = all_at d g i (omega arith)

  pub all_of : (l : List A) (d : A) → ((i : ℕ) → i < length l → P (get_or l i d)) → All P l
  all_of [] d f = none
  all_of (a ∷ l) d f = more (f 0 (omega arith)) (all_of l d (λ i h. f (suc i) (omega arith)))

  pub all_take : (i : ℕ) {l : List A} → All P l → All P (take i l)
  all_take zero none = none
  all_take zero (more p h) = none
  all_take (suc i) none = none
  all_take (suc i) (more p h) = more p (all_take i h)

  pub all_drop : (i : ℕ) {l : List A} → All P l → All P (drop i l)
  all_drop zero none = none
  all_drop zero (more p h) = more p h
  all_drop (suc i) none = none
  all_drop (suc i) (more p h) = all_drop i h

  -- one more, after those before it
  pub all_one_more : (l : List A) (i : ℕ) (d : A) → i < length l → All P (take i l) → P (get_or l i d) → All P (take (i + 1) l)
  all_one_more l i d h g p = rw (add-one i, take-suc l i d h) (all_append g (more p none))

pub all_map : {A : Type 0} {P Q : A → Type 0} {l : List A} → ((a : A) → P a → Q a) → All P l → All Q l
all_map f none = none
all_map f (more p h) = more (f _ p) (all_map f h)
