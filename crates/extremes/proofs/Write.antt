-- How the text is written, run by run, from its end. Assumes nothing.
use mathlib.Core.Path.{◌≡◌, refl, sym, ap, ap₂, ◌∙◌}
use mathlib.Core.List.{List, [], ◌∷◌, ◌++◌, append_assoc}
use Prim.Native.Nat.{ℕ, zero, suc, ◌+◌, ◌-◌, ◌≤◌}
use native.Mathlib.Omega.{arith}
use lib.ListN.{length, take, drop, replicate, length-append, length-replicate, length-take, length-drop, take-append-drop}
use lib.Seq.{drop_at, drop-drop, take-append-le}
use Rattle.plain.specs.All.{All}
use Rattle.shapes.specs.Shape.{Block, Small, text_of}
use Rattle.shapes.specs.Lent.{shape_of, Accepted}
use Rattle.shapes.proofs.Fits.{filling_length}
use Rattle.extreme_steps.specs.declared.Direction.{Direction}
use Rattle.extreme_steps.specs.declared.Choice.{Choice}
use Rattle.extreme_steps.specs.Steps.{char_of, taken, successor, runs, extreme}
use Rattle.extreme_steps.specs.Code.{char_in, run_of, text_from}
use Rattle.extremes.proofs.Best.{runs_fill}

-- ---- one run in its place

pub put_some : (at count v w : ℕ) (out q : List ℕ) → at + count ≤ length out → w ≡ v → q ≡ replicate (length (take (at + count - at) (drop at out))) w
    → take at out ++ (q ++ drop (at + count - at) (drop at out)) ≡ take at out ++ (replicate count v ++ drop (at + count) out)
put_some at count v w out q h e f =
    let long : length (take (at + count - at) (drop at out)) ≡ count = let a = length-take (at + count - at) (drop at out) in let b = length-drop at out in omega arith in
    let there : at + (at + count - at) ≡ at + count = omega arith in
    ap (λ (l : List ℕ). take at out ++ l)
    (ap₂ (λ (a b : List ℕ). a ++ b) (f ∙ ap₂ (λ (n x : ℕ). replicate n x) long e) (drop-drop (at + count - at) at out ∙ ap (λ (n : ℕ). drop n out) there))

-- ---- the text from a block on

pub text_append : (f g : List (List ℕ)) → text_of (f ++ g) ≡ text_of f ++ text_of g
unfolding text_of
text_append [] g = refl
text_append (r ∷ f) g = ap (λ (l : List ℕ). r ++ l) (text_append f g) ∙ sym (append_assoc r (text_of f) (text_of g))

from_short : (d : Direction) (s : List Block) (i : ℕ) → length (extreme d (drop i s)) ≤ length (extreme d s)
unfolding runs text_of
from_short d s zero = omega arith
from_short d [] (suc i) = omega arith
from_short d (b ∷ s) (suc i) =
    let h = from_short d s i in
    let l = length-append (replicate (taken d b (successor d s)) (char_of d b.base)) (extreme d s) in
    omega arith

-- a shape's text keeps within 250
pub text_room : (d : Direction) (xs : List ℕ) → Accepted xs → All Small (shape_of xs) → length (extreme d (shape_of xs)) ≤ 250
text_room d xs a small = let whole = filling_length (runs_fill d small a.sound) in let short = a.short in omega arith

-- what block i, from 0, chooses, as characters: with those behind it they are no more than the whole text has
pub run_counted : (d : Direction) (xs : List ℕ) (i j : ℕ) (k : Choice) → run_of k ++ text_from d xs j ≡ text_from d xs i
    → (k.count + length (text_from d xs j) ≡ length (text_from d xs i)) × (length (text_from d xs i) ≤ length (extreme d (shape_of xs)))
run_counted d xs i j k e =
    let a = ap length e in
    let l = length-append (run_of k) (text_from d xs j) in
    let r = length-replicate k.count (char_in k.successor) in
    (omega arith, from_short d (shape_of xs) i)

-- ---- the output with some of the text in it

take_front : (at count : ℕ) (l out : List ℕ) → length (take (at + count) out) ≡ at + count → take at (take (at + count) out ++ l) ≡ take at out
take_front at count l out h =
    let within : at ≤ length (take (at + count) out) = omega arith in
    take-append-le at (take (at + count) out) l within ∙ sym (take-append-le at (take (at + count) out) (drop (at + count) out) within) ∙ ap (take at) (take-append-drop (at + count) out)

-- t stands in the output from place `at` to place n, and all else is as found
pub record StandsIn (at n : ℕ) (t out out' : List ℕ) : Type 0 where
  pub ends : at + length t ≡ n
  pub bytes : out' ≡ take at out ++ (t ++ drop n out)

-- nothing yet
pub stands_none : (n : ℕ) {t : List ℕ} (out : List ℕ) → t ≡ [] → StandsIn n n t out out
stands_none n out e =
    let none = ap length e in
    record { ends = omega arith; bytes = sym (take-append-drop n out) ∙ sym (ap (λ (l : List ℕ). take n out ++ (l ++ drop n out)) e) }

-- the run of one choice more, in front
pub stands_more : (at n : ℕ) (k : Choice) {t u out out' out'' : List ℕ} → StandsIn at n t out out' → n ≤ length out → k.count ≤ at → run_of k ++ t ≡ u
    → out'' ≡ take (at - k.count) out' ++ (run_of k ++ drop (at - k.count + k.count) out') → StandsIn (at - k.count) n u out out''
stands_more at n k {t} {u} {out} {out'} h room fits e put =
    let from : ℕ = at - k.count in
    let end = h.ends in
    let there : at ≡ from + k.count = omega arith in
    let before : out' ≡ take (from + k.count) out ++ (t ++ drop n out) = h.bytes ∙ ap (λ (m : ℕ). take m out ++ (t ++ drop n out)) there in
    let all : length (take (from + k.count) out) ≡ from + k.count = let a = length-take (from + k.count) out in omega arith in
    let back : drop (from + k.count) out' ≡ t ++ drop n out = ap (drop (from + k.count)) before ∙ drop_at (take (from + k.count) out) (t ++ drop n out) (from + k.count) all in
    let front : take from out' ≡ take from out = ap (take from) before ∙ take_front from k.count (t ++ drop n out) out all in
    let both = length-append (run_of k) t in
    let run = length-replicate k.count (char_in k.successor) in
    let whole = ap length e in
    record {
      ends = omega arith;
      bytes = put ∙ ap₂ (λ (a b : List ℕ). a ++ (run_of k ++ b)) front back
          ∙ ap (λ (l : List ℕ). take from out ++ l) (sym (append_assoc (run_of k) t (drop n out)) ∙ ap (λ (l : List ℕ). l ++ drop n out) e);
    }
