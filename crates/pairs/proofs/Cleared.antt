-- The work buffer set to 0. Assumes nothing.
use mathlib.Core.Path.{◌≡◌, ap, ◌∙◌}
use mathlib.Core.List.{List, ◌++◌}
use Prim.Native.Nat.{ℕ, ◌≤◌}
use lib.ListN.{length, take, drop, replicate}
use Rattle.std.proofs.lemmas.List.{length-take-le}
use Rattle.pairs.specs.Narrow.{cleared}

-- filled with 0 as far as n
pub cleared_filled : (n : ℕ) (w f : List ℕ) → n ≤ length w → f ≡ replicate (length (take n w)) 0 → f ++ drop n w ≡ cleared n w
unfolding cleared
cleared_filled n w f h e = ap (λ (l : List ℕ). l ++ drop n w) (e ∙ ap (λ (k : ℕ). replicate k 0) (length-take-le n w h))
