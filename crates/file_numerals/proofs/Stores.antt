-- Runs of stores: one run after another, and a store before a run. Assumes nothing.
use mathlib.Core.Path.{◌≡◌, refl, sym, ap, ◌∙◌}
use mathlib.Core.List.{List, [], ◌∷◌, ◌++◌}
use Prim.Native.Nat.{ℕ, zero, suc, ◌+◌, ◌≤◌, ◌<◌}
use native.Mathlib.Omega.{arith}
use native.Mathlib.Nat.{add-zero, add-suc, suc-add}
use native.Mathlib.Numerals.{add-one}
use lib.ListN.{length, get_or, take, drop, set}
use lib.Seq.{sets, set_comm, take-suc, take_all, sets-eq}
use borrow.Rule.Slice.PartMut.{put_mid}
use Rattle.std.proofs.lemmas.Slice.{put_mid-paste}

-- a run stored after another is one run
pub sets_append : (vs us l : List ℕ) (i : ℕ) → sets l i (vs ++ us) ≡ sets (sets l i vs) (i + length vs) us
sets_append [] us l i = ap (λ (k : ℕ). sets l k us) (sym (add-zero i))
sets_append (v ∷ vs) us l i = sets_append vs us (set l i v) (suc i) ∙ ap (λ (k : ℕ). sets (sets (set l i v) (suc i) vs) k us) (suc-add i (length vs) ∙ sym (add-suc i (length vs)))

-- a store before a run, whichever comes first
pub set_sets : (vs l : List ℕ) (i j v : ℕ) → j < i → set (sets l i vs) j v ≡ sets (set l j v) i vs
set_sets [] l i j v h = refl
set_sets (u ∷ vs) l i j v h =
    set_sets vs (set l i u) (suc i) j v (omega arith) ∙ ap (λ (m : List ℕ). sets m (suc i) vs) (set_comm l i j u v (λ e. omega arith))

-- one store past a run makes the run longer
pub one_more : (l s : List ℕ) (at i : ℕ) → i < length s → set (sets l at (take i s)) (at + i) (get_or s i 0) ≡ sets l at (take (i + 1) s)
one_more l s at i h = sym
    (ap (λ (k : ℕ). sets l at (take k s)) (add-one i) ∙ ap (sets l at) (take-suc s i 0 h) ∙ sets_append (take i s) (get_or s i 0 ∷ []) l at ∙ ap (λ (k : ℕ). set (sets l at (take i s)) (at + k) (get_or s i 0)) (long i s h))
  where
    long : (i : ℕ) (s : List ℕ) → i < length s → length (take i s) ≡ i
    long zero s h = refl
    long (suc i) [] h = absurd (omega arith)
    long (suc i) (a ∷ s) h = ap suc (long i s (omega arith))

-- a run from the start, and what stays past it
pub sets_start : (vs l : List ℕ) → length vs ≤ length l → sets l 0 vs ≡ vs ++ drop (length vs) l
sets_start vs l h = sets-eq vs l 0 (omega arith) ∙ ap (λ (k : ℕ). vs ++ drop k l) (let e : 0 + length vs ≡ length vs = omega arith in e)

-- a copy over a part is a run from its start
pub copied_in : (a k : ℕ) (xs ys zs : List ℕ) → ys ≡ zs → k ≡ length zs → a + k ≤ length xs → put_mid a k xs ys ≡ sets xs a zs
copied_in a k xs ys zs e n h =
    put_mid-paste a k xs ys zs k e refl n ∙ ap (λ (t : List ℕ). take a xs ++ t ++ drop (a + k) xs) (take_all k zs (omega arith))
    ∙ ap (λ (j : ℕ). take a xs ++ zs ++ drop (a + j) xs) n ∙ sym (sets-eq zs xs a (omega arith))
