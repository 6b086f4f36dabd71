-- The first byte set, and the rest of the output written: lists alone. Assumes nothing.
use mathlib.Core.Path.{◌≡◌, refl, ap, ◌∙◌}
use mathlib.Core.List.{List, [], ◌∷◌, ◌++◌, append-nil}
use Prim.Native.Nat.{ℕ, suc, ◌+◌, ◌-◌, ◌≤◌}
use native.Mathlib.Omega.{arith}
use lib.ListN.{length, set, take, drop}
use lib.Seq.{drop-length}
use borrow.Rule.Slice.PartMut.{put_mid}

take_all : (l : List ℕ) → take (length l) l ≡ l
take_all [] = refl
take_all (x ∷ l) = ap (λ (m : List ℕ). x ∷ m) (take_all l)

-- what is lent on: all but the first byte
abbrev pub rest : List ℕ → ℕ → List ℕ
rest out c = take (length (set out 0 c) - 1) (drop 1 (set out 0 c))

rest_is : (x c : ℕ) (l : List ℕ) → rest (x ∷ l) c ≡ l
rest_is x c l = ap (λ (k : ℕ). take k l) (let e : suc (length l) - 1 ≡ length l = omega arith in e) ∙ take_all l

pub rest_long : (out : List ℕ) (c : ℕ) → 1 ≤ length out → length (rest out c) ≡ length out - 1
rest_long [] c h = absurd (omega arith)
rest_long (x ∷ l) c h = ap length (rest_is x c l) ∙ (let e : length l ≡ suc (length l) - 1 = omega arith in e)

-- and laid back
laid_is : (x c : ℕ) (l ys : List ℕ) → put_mid 1 (length (set (x ∷ l) 0 c) - 1) (set (x ∷ l) 0 c) ys ≡ c ∷ ys
laid_is x c l ys = ap (λ (m : List ℕ). c ∷ m)
    (ap (λ (j : ℕ). ys ++ drop j l) (let e : suc (length l) - 1 ≡ length l = omega arith in e) ∙ ap (λ (m : List ℕ). ys ++ m) (drop-length l) ∙ append-nil ys)

pub laid_long : (out ys : List ℕ) (c : ℕ) → 1 ≤ length out → length ys ≡ length (rest out c) → length (put_mid 1 (length (set out 0 c) - 1) (set out 0 c) ys) ≡ length out
laid_long [] ys c h e = absurd (omega arith)
laid_long (x ∷ l) ys c h e = ap length (laid_is x c l ys) ∙ ap suc (e ∙ ap length (rest_is x c l))

pub laid_text : (out ys t : List ℕ) (c n : ℕ) → 1 ≤ length out → ys ≡ t ++ drop n (rest out c) → put_mid 1 (length (set out 0 c) - 1) (set out 0 c) ys ≡ (c ∷ t) ++ drop (n + 1) out
laid_text [] ys t c n h e = absurd (omega arith)
laid_text (x ∷ l) ys t c n h e =
    laid_is x c l ys ∙ ap (λ (m : List ℕ). c ∷ m) (e ∙ ap (λ (m : List ℕ). t ++ drop n m) (rest_is x c l) ∙ ap (λ (k : ℕ). t ++ drop k (x ∷ l)) (let s : suc n ≡ n + 1 = omega arith in s))
