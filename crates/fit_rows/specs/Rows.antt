-- What the inner functions of fitting answer. A set of places of a text is a number with a bit for each, as `sets`
-- reads it.
use Rattle.std.specs.Prelude.{◌≡◌, List, [], ◌∷◌, ◌⊎◌, ℕ, ◌+◌, ◌*◌, ◌/◌, ◌%◌, ◌^◌, ◌≤◌, ◌<◌, length, get_or, drop}
use Rattle.bases.specs.Base.{base_of, Holds, codes}
use Rattle.sets.specs.Set.{Exactly}
use Rattle.shapes.specs.Shape.{Block, Fits}

-- a table has a word for each character and each 64 places of a text, those of the first 64 places first: one for each
-- character, or four
abbrev pub Sized : List ℕ → Type 0
Sized table = (length table ≡ codes) ⊎ (length table ≡ 4 * codes)

-- the row of character c; a word past the table's end is 0
abbrev pub row_of : List ℕ → ℕ → ℕ
row_of table c = base_of (get_or table c 0 ∷ (get_or table (codes + c) 0 ∷ (get_or table (2 * codes + c) 0 ∷ (get_or table (3 * codes + c) 0 ∷ []))))

-- word i of a table has bit e: of the first k places of t, the one of that bit among the 64 of the word has the word's
-- character
abbrev pub PlacedAt : List ℕ → ℕ → ℕ → ℕ → Type 0
PlacedAt t k i e = (e < 64) × ((i / codes * 64 + e < k) × (get_or t (i / codes * 64 + e) 0 ≡ i % codes))

-- the table of the first k places of t
pub record Placed (t : List ℕ) (k : ℕ) (table : List ℕ) : Type 0 where
  pub small : (i : ℕ) → get_or table i 0 < 2 ^ 64
  pub words : (i : ℕ) → Exactly (get_or table i 0) (PlacedAt t k i)

-- row c of the table has the places of the character c
abbrev pub PlacesOf : List ℕ → List ℕ → Type 0
PlacesOf t table = (c : ℕ) → c < codes → Exactly (row_of table c) (λ p. (p < length t) × (get_or t p 0 ≡ c))

-- the first k characters of t are among those seen
abbrev pub SeenTo : List ℕ → ℕ → ℕ → Type 0
SeenTo t k seen = (p : ℕ) → p < k → Holds seen (get_or t p 0)

-- p stands in the row of a number that w holds
pub record Picked (R : ℕ → ℕ) (w p : ℕ) : Type 0 where
  pub number : ℕ
  pub held : Holds w number
  pub there : Holds (R number) p

-- or is among those so far
abbrev pub AndPicked : ℕ → (ℕ → ℕ) → ℕ → ℕ → Type 0
AndPicked so_far R w p = Holds so_far p ⊎ Picked R w p

-- the places whose character the base holds
abbrev pub HeldAt : ℕ → List ℕ → ℕ → Type 0
HeldAt base t held = Exactly held (λ p. (p < length t) × Holds base (get_or t p 0))

-- from p, k held places lead to a place of s
pub record Steps (held s k p : ℕ) : Type 0 where
  pub there : Holds s (p + k)
  pub each : (j : ℕ) → j < k → Holds held (p + j)

-- from p, at most `most` held places do
pub record StepsUpTo (held s most p : ℕ) : Type 0 where
  pub count : ℕ
  pub within : count ≤ most
  pub steps : Steps held s count p

-- the places from which the rest of the text fits some blocks
abbrev pub Row : List Block → List ℕ → ℕ → Type 0
Row s t row = Exactly row (λ p. (p ≤ length t) × Fits s (drop p t))
