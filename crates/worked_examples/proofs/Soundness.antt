-- Whether blocks are sound, by computation. Assumes nothing.
use mathlib.Core.Path.{◌≡◌, refl, sym, subst}
use mathlib.Core.Bool.{Bool, true, false, false≢true}
use mathlib.Core.List.{List, [], ◌∷◌}
use Prim.Native.Nat.{ℕ, zero, suc}
use native.Mathlib.Omega.{arith}
use borrow.Author.Tests.{leb-true}
use lib.Dec.{leb}
use Rattle.bases.specs.Base.{Empty}
use Rattle.bases.proofs.Laws.{empty_zero, none_in_zero}
use Rattle.plain.specs.All.{All, more}
use Rattle.shapes.specs.Shape.{Block, Sound}
use Rattle.equal_reckoning.specs.Equal.{and}

unfoldable pub positive : ℕ → Bool
positive zero = false
positive (suc n) = true

unfoldable pub same : Bool → Bool → Bool
same true b = b
same false true = false
same false false = true

unfoldable pub sound : Block → Bool
sound b = and (leb b.lower b.upper) (and (leb b.upper 250) (same (positive b.base) (positive b.upper)))

unfoldable pub all_sound : List Block → Bool
unfolding positive same sound and
all_sound [] = true
all_sound (b ∷ s) = and (sound b) (all_sound s)

and_first : (p q : Bool) → and p q ≡ true → p ≡ true
unfolding and
and_first true q h = refl
and_first false q h = absurd (false≢true h)

and_second : (p q : Bool) → and p q ≡ true → q ≡ true
unfolding and
and_second true q h = h
and_second false q h = absurd (false≢true h)

same_zero : (m n : ℕ) → same (positive m) (positive n) ≡ true → m ≡ 0 → n ≡ 0
unfolding same positive
same_zero zero zero h z = refl
same_zero zero (suc n) h z = absurd (false≢true h)
same_zero (suc m) n h z = absurd (omega arith)

zero_same : (m n : ℕ) → same (positive m) (positive n) ≡ true → n ≡ 0 → m ≡ 0
unfolding same positive
zero_same zero n h z = refl
zero_same (suc m) zero h z = absurd (false≢true h)
zero_same (suc m) (suc n) h z = absurd (omega arith)

sound_by : (x : Block) → sound x ≡ true → Sound x
unfolding sound
sound_by x h =
    let more = and_second (leb x.lower x.upper) _ h in
    let last = and_second (leb x.upper 250) _ more in
    record {
      ordered = leb-true x.lower x.upper (and_first _ _ h);
      small = leb-true x.upper 250 (and_first _ _ more);
      filled = λ g. same_zero x.base x.upper last (empty_zero x.base g);
      bare = λ g. subst Empty (sym (zero_same x.base x.upper last g)) none_in_zero;
    }

pub all_sound_by : (s : List Block) → all_sound s ≡ true → All Sound s
unfolding all_sound
all_sound_by [] h = All.none
all_sound_by (x ∷ s) h = more (sound_by x (and_first (sound x) (all_sound s) h)) (all_sound_by s (and_second (sound x) (all_sound s) h))
