-- Two lists laid end to end, and what lies past the first. Assumes nothing.
use mathlib.Core.Path.{◌≡◌, refl, sym, ap, ◌∙◌}
use mathlib.Core.List.{List, ◌++◌, append_assoc}
use Prim.Native.Nat.{ℕ, ◌+◌, ◌-◌}
use native.Mathlib.Omega.{arith}
use lib.ListN.{length, take, drop, length-append, length-drop}
use lib.Seq.{take_at, take_all}
use Rattle.laying.specs.Laid.{replaced}

-- all that is left past n elements
pub rest_all : {A : Type 0} (n : ℕ) (l : List A) → take (length l - n) (drop n l) ≡ drop n l
rest_all n l = take_all (length l - n) (drop n l) (let e = length-drop n l in omega arith)

-- n elements laid over the front
pub front_laid : {A : Type 0} (x l : List A) (n : ℕ) → length x ≡ n → replaced 0 x l ≡ x ++ drop n l
front_laid x l n e = ap (λ (k : ℕ). x ++ drop k l) (let same : 0 + length x ≡ n = omega arith in same)

-- the second list laid behind the first
pub line_laid : {A : Type 0} (a b l : List A) → take (length a + length b) (replaced (length a) b (replaced 0 a l)) ≡ a ++ b
line_laid a b l =
    let rest = drop (length a + length b) (replaced 0 a l) in
    ap (λ (s : List _). take (length a + length b) (s ++ (b ++ rest))) (take_at a (drop (0 + length a) l) (length a) refl)
    ∙ ap (take (length a + length b)) (sym (append_assoc a b rest)) ∙ take_at (a ++ b) rest (length a + length b) (length-append a b)
