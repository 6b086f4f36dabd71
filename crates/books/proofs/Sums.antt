-- Where the texts stand: block counts added, and that the texts lie one after the other. Assumes nothing.
use mathlib.Core.Path.{◌≡◌, refl, sym, ap, ◌∙◌, subst}
use mathlib.Core.List.{List, [], ◌∷◌}
use Prim.Native.Nat.{ℕ, zero, suc, ◌+◌, ◌-◌, ◌*◌, ◌^◌, ◌≤◌, ◌<◌}
use Rattle.std.specs.Prelude.{sum}
use Rattle.std.proofs.lemmas.List.Sums.{sum_by_from}
use native.Mathlib.Numerals.{add-one}
use native.Mathlib.Omega.{arith}
use lib.ListN.{length, get_or, take, drop, length-drop, take-append-drop}
use lib.Seq.{take-length, drop-drop}
use Rattle.plain.specs.All.{All, more}
use Rattle.shapes.specs.Shape.{Block, Sound}
use Rattle.plain.proofs.All.{all_at, all_append}
use Rattle.books.specs.Counts.{sum_of, RightCount, count_of, first_of}
use Rattle.books.specs.Rules.{Names}

pub sum_next : (cs : List ℕ) (i : ℕ) → sum_of (take (suc i) cs) ≡ sum_of (take i cs) + get_or cs i 0
unfolding sum_of
sum_next [] zero = refl
sum_next [] (suc i) = refl
sum_next (c ∷ cs) zero = omega arith
sum_next (c ∷ cs) (suc i) = let h = sum_next cs i in omega arith

-- the same, in the code's terms
pub sum_one_more : (cs : List ℕ) (i : ℕ) → sum_of (take (i + 1) cs) ≡ sum_of (take i cs) + get_or cs i 0
sum_one_more cs i = ap (λ (n : ℕ). sum_of (take n cs)) (add-one i) ∙ sum_next cs i

pub sum_all : (cs : List ℕ) → sum_of (take (length cs) cs) ≡ sum_of cs
sum_all cs = ap sum_of (take-length cs)

pub sum_less : (cs : List ℕ) (i j : ℕ) → i ≤ j → sum_of (take i cs) ≤ sum_of (take j cs)
unfolding sum_of
sum_less [] zero zero h = omega arith
sum_less [] zero (suc j) h = omega arith
sum_less [] (suc i) zero h = omega arith
sum_less [] (suc i) (suc j) h = omega arith
sum_less (c ∷ cs) zero j h = omega arith
sum_less (c ∷ cs) (suc i) zero h = absurd (omega arith)
sum_less (c ∷ cs) (suc i) (suc j) h = let g = sum_less cs i j (omega arith) in omega arith

pub sum_most : (cs : List ℕ) (i : ℕ) → sum_of (take i cs) ≤ sum_of cs
unfolding sum_of
sum_most [] zero = omega arith
sum_most [] (suc i) = omega arith
sum_most (c ∷ cs) zero = omega arith
sum_most (c ∷ cs) (suc i) = let h = sum_most cs i in omega arith

-- right counts keep the sum small
pub sum_small : (cs : List ℕ) (i : ℕ) → All RightCount cs → sum_of (take i cs) ≤ 32 * i
unfolding sum_of
sum_small [] zero a = omega arith
sum_small [] (suc i) a = omega arith
sum_small (c ∷ cs) zero a = omega arith
sum_small (c ∷ cs) (suc i) (more r a) = let h = sum_small cs i a in let g = r.few in omega arith

-- std's sum is the same, and the first few right counts' fits
pub sum_is : (cs : List ℕ) → sum cs ≡ sum_of cs
unfolding sum_of
sum_is [] = refl
sum_is (c ∷ cs) = let e = sum_is cs in let f = sum_by_from (λ (n : ℕ). n) (0 + c) cs in omega arith

pub sum_fits : (cs : List ℕ) (i : ℕ) → All RightCount cs → i ≤ 8 → sum (take i cs) < 2 ^ 64
sum_fits cs i a h = let e = sum_is (take i cs) in let b = sum_small cs i a in omega arith

-- ---- the texts

module _ (counts : List ℕ) where
  -- text k ends where the next begins
  pub text_end : (k : ℕ) → 1 ≤ k → first_of counts k + count_of counts k ≡ sum_of (take k counts)
  text_end zero h = absurd (omega arith)
  text_end (suc k) h = sym (sum_next counts (suc k - 1)) ∙ ap (λ (n : ℕ). sum_of (take n counts)) (let e : suc (suc k - 1) ≡ suc k = omega arith in e)

  pub text_within : (k : ℕ) → 1 ≤ k → first_of counts k + count_of counts k ≤ sum_of counts
  text_within k h = let e = text_end k h in let m = sum_most counts k in omega arith

  -- a text lies before every later one
  pub text_before : (a b : ℕ) → 1 ≤ a → a < b → first_of counts a + count_of counts a ≤ first_of counts b
  text_before a b h l = let e = text_end a h in let m = sum_less counts a (b - 1) (omega arith) in omega arith

  pub text_small : (k : ℕ) → All RightCount counts → Names counts k → count_of counts k ≤ 32
  text_small k a n = let f = n.from_one in let w = n.within in (all_at 0 a (k - 1) (omega arith)).few

-- blocks of which each text's are sound are sound
pub texts_sound : (cs : List ℕ) (S : List Block) → length S ≡ sum_of cs
    → ((i : ℕ) → i < length cs → All Sound (take (get_or cs i 0) (drop (sum_of (take i cs)) S))) → All Sound S
unfolding sum_of
texts_sound [] [] e f = All.none
texts_sound [] (b ∷ S) e f = absurd (omega arith)
texts_sound (c ∷ cs) S e f =
    rw (← take-append-drop c S)
    (all_append (f 0 (omega arith))
    (texts_sound cs (drop c S) (length-drop c S ∙ omega arith)
    (λ i l. subst (λ (r : List Block). All Sound (take (get_or cs i 0) r)) (sym (drop-drop (sum_of (take i cs)) c S)) (f (suc i) (omega arith)))))
