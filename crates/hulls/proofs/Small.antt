-- Narrower blocks have no new characters: their bases stay below the same power of two. Assumes nothing.
use mathlib.Core.Path.{◌≡◌, sym, ◌∙◌, subst}
use mathlib.Core.List.{List}
use Prim.Native.Nat.{ℕ, zero, suc, ◌*◌, ◌/◌, ◌^◌, ◌<◌}
use native.Mathlib.Nat.{pow-succ'}
use native.Mathlib.Numerals.{add-one}
use native.Mathlib.Omega.{arith}
use lib.Pow.{shr_lt}
use Rattle.bases.specs.Base.{Holds, Empty, codes}
use Rattle.bases.proofs.Laws.{halved, empty_zero, none_in_zero}
use Rattle.plain.specs.All.{All, more}
use Rattle.shapes.specs.Shape.{Block, Small}
use Rattle.hulls.specs.Book.{Within, end, next}

pub sub_half : (a b : ℕ) → ((c : ℕ) → Holds a c → Holds b c) → (c : ℕ) → Holds (a / 2) c → Holds (b / 2) c
unfolding Holds
sub_half a b s c h = sym (halved b c) ∙ s (suc c) (halved a c ∙ h)

-- what a base below 2 ^ k holds is below it too
sub_small : (k a b : ℕ) → b < 2 ^ k → ((c : ℕ) → Holds a c → Holds b c) → a < 2 ^ k
unfolding Empty
sub_small zero a b l s =
    let zero-b : b ≡ 0 = omega arith in
    let zero_a : a ≡ 0 = empty_zero a (λ c h. none_in_zero c (subst (λ (x : ℕ). Holds x c) zero-b (s c h))) in
    omega arith
sub_small (suc k) a b l s =
    let h = sub_small k (a / 2) (b / 2) (shr_lt k 1 (rw add-one l)) (sub_half a b s) in
    let e : 2 ^ suc k ≡ 2 * 2 ^ k = pow-succ' 2 k in
    omega arith

-- below every power, and so below the one of all codes
pub within_below : (k : ℕ) {H S : List Block} → Within H S → All (λ b. b.base < 2 ^ k) S → All (λ b. b.base < 2 ^ k) H
within_below k end l = All.none
within_below k (next {h} {b} p w) (more l m) = more (sub_small k h.base b.base l p.base) (within_below k w m)

pub within_small : {H S : List Block} → Within H S → All Small S → All Small H
within_small = within_below codes
