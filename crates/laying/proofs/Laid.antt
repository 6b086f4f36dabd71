-- Something laid over a part of a list: what is read back, and what stays. Assumes nothing.
use mathlib.Core.Path.{◌≡◌, refl, sym, ap, ap₂, ◌∙◌}
use mathlib.Core.List.{List, ◌++◌, append_assoc, append-nil}
use Prim.Native.Nat.{ℕ, ◌+◌, ◌-◌, ◌≤◌}
use native.Mathlib.Omega.{arith}
use lib.ListN.{length, take, drop, length-append, length-drop, take-append-drop, drop_of_length-le}
use lib.Seq.{take_at, drop_at, drop-drop, length-take-le, take-length, take-append-le, drop-append-le, drop-append-add, paste}
use Rattle.laying.specs.Laid.{replaced}

module _ {A : Type 0} where
  pub replaced_length : (m : ℕ) (x l : List A) → m + length x ≤ length l → length (replaced m x l) ≡ length l
  replaced_length m x l h = simp (length-append, length-take-le m l (omega arith), length-drop) (omega arith)

  -- what stands there is read back
  pub read_there : (m : ℕ) (x l : List A) → m + length x ≤ length l → take (length x) (drop m (replaced m x l)) ≡ x
  read_there m x l h =
      ap (take (length x)) (drop_at (take m l) (x ++ drop (m + length x) l) m (length-take-le m l (omega arith)))
      ∙ take_at x (drop (m + length x) l) (length x) refl

  in_front : (m n : ℕ) (a b : List A) → m + n ≤ length a → take n (drop m (a ++ b)) ≡ take n (drop m a)
  in_front m n a b h = ap (take n) (drop-append-le m a b (omega arith)) ∙ take-append-le n (drop m a) b (let e = length-drop m a in omega arith)

  -- and elsewhere nothing is changed, before it
  pub read_before : (m n p : ℕ) (y l : List A) → m + n ≤ p → p ≤ length l → take n (drop m (replaced p y l)) ≡ take n (drop m l)
  read_before m n p y l h g =
      let size = length-take-le p l g in
      let part : m + n ≤ length (take p l) = omega arith in
      in_front m n (take p l) (y ++ drop (p + length y) l) part
      ∙ sym (ap (λ (k : List A). take n (drop m k)) (sym (take-append-drop p l)) ∙ in_front m n (take p l) (drop p l) part)

  -- or after it
  pub read_after : (m n p : ℕ) (y l : List A) → p + length y ≤ m → p ≤ length l → take n (drop m (replaced p y l)) ≡ take n (drop m l)
  read_after m n p y l h g =
      let size : length (take p l ++ y) ≡ p + length y = length-append (take p l) y ∙ ap (λ (k : ℕ). k + length y) (length-take-le p l g) in
      let past : m ≡ length (take p l ++ y) + (m - (p + length y)) = omega arith in
      let back : p + length y + (m - (p + length y)) ≡ m = omega arith in
      ap (take n)
      (ap₂ drop past (sym (append_assoc (take p l) y (drop (p + length y) l)))
      ∙ drop-append-add (take p l ++ y) (drop (p + length y) l) (m - (p + length y))
      ∙ drop-drop (m - (p + length y)) (p + length y) l
      ∙ ap (λ (k : ℕ). drop k l) back)

  -- what is read and laid back changes nothing
  pub laid_back : (m n : ℕ) (l : List A) → m + n ≤ length l → replaced m (take n (drop m l)) l ≡ l
  laid_back m n l h =
      let size : length (take n (drop m l)) ≡ n = length-take-le n (drop m l) (let e = length-drop m l in omega arith) in
      ap (λ (k : List A). take m l ++ k)
      (ap (λ (k : ℕ). take n (drop m l) ++ drop (m + k) l) size ∙ ap (λ (k : List A). take n (drop m l) ++ k) (sym (drop-drop n m l)) ∙ take-append-drop n (drop m l))
      ∙ take-append-drop m l

  -- so does what stands there already
  pub stood_there : (m : ℕ) (x l : List A) → take (length x) (drop m l) ≡ x → m + length x ≤ length l → replaced m x l ≡ l
  stood_there m x l e h = ap (λ (k : List A). replaced m k l) (sym e) ∙ laid_back m (length x) l h

  -- laid over the front, or over all
  pub front_back : (x l : List A) → take (length x) (replaced 0 x l) ≡ x
  front_back x l = take_at x (drop (0 + length x) l) (length x) refl

  pub all_over : (x l : List A) → length x ≡ length l → replaced 0 x l ≡ x
  all_over x l e =
      let past : length l ≤ 0 + length x = omega arith in
      ap (λ (k : List A). x ++ k) (drop_of_length-le l past) ∙ append-nil x

  -- what a copy of n elements leaves
  pub paste_replaced : (d : List A) (at : ℕ) (s : List A) (n : ℕ) → n ≤ length s → paste d at s n ≡ replaced at (take n s) d
  paste_replaced d at s n h = append_assoc (take at d) (take n s) (drop (at + n) d)
      ∙ ap (λ (k : ℕ). take at d ++ (take n s ++ drop (at + k) d)) (sym (length-take-le n s h))

  -- what a copy of all leaves
  pub paste_all : (d : List A) (at : ℕ) (s : List A) → paste d at s (length s) ≡ replaced at s d
  paste_all d at s = paste_replaced d at s (length s) (omega arith) ∙ ap (λ (x : List A). replaced at x d) (take-length s)
