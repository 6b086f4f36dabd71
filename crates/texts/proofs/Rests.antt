-- The order of two texts by their rests from one index on. Assumes nothing.
use mathlib.Core.Path.{◌≡◌, sym, ap, ◌∙◌, subst, subst₂}
use mathlib.Core.List.{List, ◌∷◌}
use Prim.Native.Nat.{ℕ, ◌+◌, ◌≤◌, ◌<◌}
use native.Mathlib.Numerals.{add-one}
use native.Mathlib.Omega.{arith}
use lib.ListN.{length, get_or, drop, drop_of_length-le}
use lib.Seq.{drop-cons}
use Rattle.texts.specs.Order.{AtMost, Before}
use Rattle.texts.proofs.Order.{at_most_nil, before_nil, at_most_head, at_most_tail, before_head, before_tail}

-- the rest from i on: its first character, and the rest from i + 1 on
pub rest_next : (a : List ℕ) (i : ℕ) → i < length a → drop i a ≡ get_or a i 0 ∷ drop (i + 1) a
rest_next a i h = drop-cons a i 0 h ∙ ap (λ (n : ℕ). get_or a i 0 ∷ drop n a) (sym (add-one i))

module _ (a b : List ℕ) (i : ℕ) where
  pub longer_not : i < length a → length b ≤ i → AtMost (drop i a) (drop i b) → ⊥
  longer_not ha hb p = at_most_nil (subst₂ AtMost (rest_next a i ha) (drop_of_length-le b hb) p)

  pub ended_not : length a ≤ i → Before (drop i b) (drop i a) → ⊥
  ended_not ha p = before_nil (subst (λ (l : List ℕ). Before (drop i b) l) (drop_of_length-le a ha) p)

  module _ (ha : i < length a) (hb : i < length b) where
    heads : AtMost (drop i a) (drop i b) → AtMost (get_or a i 0 ∷ drop (i + 1) a) (get_or b i 0 ∷ drop (i + 1) b)
    heads p = subst₂ AtMost (rest_next a i ha) (rest_next b i hb) p

    before_heads : Before (drop i b) (drop i a) → Before (get_or b i 0 ∷ drop (i + 1) b) (get_or a i 0 ∷ drop (i + 1) a)
    before_heads p = subst₂ Before (rest_next b i hb) (rest_next a i ha) p

    pub above_not : get_or b i 0 < get_or a i 0 → AtMost (drop i a) (drop i b) → ⊥
    above_not h p = let g = at_most_head (heads p) in omega arith

    pub below_not : get_or a i 0 < get_or b i 0 → Before (drop i b) (drop i a) → ⊥
    below_not h p = let g = before_head (before_heads p) in omega arith

    pub level_at_most : get_or a i 0 ≡ get_or b i 0 → AtMost (drop i a) (drop i b) → AtMost (drop (i + 1) a) (drop (i + 1) b)
    level_at_most e p = at_most_tail (heads p) e

    pub level_before : get_or a i 0 ≡ get_or b i 0 → Before (drop i b) (drop i a) → Before (drop (i + 1) b) (drop (i + 1) a)
    level_before e p = before_tail (before_heads p) (sym e)
