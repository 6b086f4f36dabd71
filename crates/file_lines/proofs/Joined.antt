-- Lines joined, one after another. Assumes nothing.
use mathlib.Core.Path.{◌≡◌, refl, sym, ap, ◌∙◌}
use mathlib.Core.List.{List, [], ◌∷◌, ◌++◌, map, append_assoc}
use Prim.Native.Nat.{ℕ}
use Rattle.file_lines.specs.Grammar.{joined}

pub joined_append : (ls ms : List (List ℕ)) → joined (ls ++ ms) ≡ joined ls ++ joined ms
unfolding joined
joined_append [] ms = refl
joined_append (l ∷ ls) ms = ap (λ (t : List ℕ). l ++ 10 ∷ t) (joined_append ls ms) ∙ sym (append_assoc l (10 ∷ joined ls) (joined ms))

pub map_more : {X : Type 0} (text : X → List ℕ) (xs : List X) (x : X) → map text (xs ++ x ∷ []) ≡ map text xs ++ text x ∷ []
map_more text [] x = refl
map_more text (y ∷ xs) x = ap (λ (t : List (List ℕ)). text y ∷ t) (map_more text xs x)
