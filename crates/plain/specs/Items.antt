-- Lent numbers that stand for things of k numbers each, one after the other: blocks, rules, rows, places, pairs. Things
-- count from 0.
use Rattle.std.specs.Prelude.{◌≡◌, List, [], ◌∷◌, ◌++◌, ℕ, zero, suc, ◌*◌, ◌/◌, length, get_or, drop}

-- The k numbers from place p on; past the end of the list they are 0.
abbrev pub numbers_at : ℕ → List ℕ → ℕ → List ℕ
numbers_at zero xs p = []
numbers_at (suc k) xs p = get_or xs p 0 ∷ numbers_at k xs (suc p)

-- Thing number i; the first n things.
abbrev pub item_at : ℕ → List ℕ → ℕ → List ℕ
item_at k xs i = numbers_at k xs (i * k)

unfoldable pub items_of : ℕ → ℕ → List ℕ → List (List ℕ)
items_of k zero xs = []
items_of k (suc n) xs = numbers_at k xs 0 ∷ items_of k n (drop k xs)

-- How many whole things there are.
abbrev pub item_count : ℕ → List ℕ → ℕ
item_count k xs = length xs / k

-- The numbers of some things, end to end.
unfoldable pub join_items : List (List ℕ) → List ℕ
join_items [] = []
join_items (x ∷ xs) = x ++ join_items xs

-- Thing number i is set to x, and no other number is changed.
pub record PutItem (k : ℕ) (w : List ℕ) (i : ℕ) (x w' : List ℕ) : Type 0 where
  pub long : length w' ≡ length w
  pub here : item_at k w' i ≡ x
  pub kept : (p : ℕ) → (p / k ≡ i → ⊥) → get_or w' p 0 ≡ get_or w p 0
