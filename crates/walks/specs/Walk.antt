-- A shape read one character at a time. Position i of a shape: some blocks are read whole, and of the next some
-- characters are taken; i is the uppers of the blocks before, added, and the characters taken. A block's end and the
-- next block's start share a position.
use Rattle.std.specs.Prelude.{◌≡◌, Bool, true, false, List, [], ◌∷◌, ℕ, ◌+◌, ◌-◌, ◌≤◌, ◌<◌, ltb}
use Rattle.bases.specs.Base.{Holds, Meets}
use Rattle.shapes.specs.Shape.{Block}

-- What a block still allows after k characters.
abbrev pub lessen : Block → ℕ → Block
lessen b k = record { base = b.base; lower = b.lower - k; upper = b.upper - k }

-- Past all blocks: no character may come, and there is no run to end.
abbrev pub past : Block
past = record { base = 0; lower = 1; upper = 0 }

unfoldable pub pick_block : Bool → Block → Block → Block
pick_block true a b = a
pick_block false a b = b

-- What is allowed at position i.
unfoldable pub slot_at : List Block → ℕ → Block
slot_at [] i = past
slot_at (b ∷ s) i = pick_block (ltb i b.upper) (lessen b i) (slot_at s (i - b.upper))

-- From position p the text is read, and the position is then q: the run may end where nothing more is asked of it, or a
-- character is taken. X says what is allowed at each position.
pub data Walk (X : ℕ → Block) (q : ℕ) : ℕ → List ℕ → Type 0 where
  here : {p : ℕ} → p ≡ q → Walk X q p []
  skip : {p : ℕ} {t : List ℕ} → (X p).lower ≡ 0 → Walk X q (p + (X p).upper) t → Walk X q p t
  step : {p c : ℕ} {t : List ℕ} → Holds (X p).base c → Walk X q (p + 1) t → Walk X q p (c ∷ t)

-- Two shapes read together: the first ends a run, or the second does, or both take one character.
pub data Move (X Y : ℕ → Block) (i j i' j' : ℕ) : Type 0 where
  first : (X i).lower ≡ 0 → i' ≡ i + (X i).upper → j' ≡ j → Move X Y i j i' j'
  second : (Y j).lower ≡ 0 → i' ≡ i → j' ≡ j + (Y j).upper → Move X Y i j i' j'
  both : Meets (X i).base (Y j).base → i' ≡ i + 1 → j' ≡ j + 1 → Move X Y i j i' j'

-- One text leads both from i and j to m and n.
pub data Path (X Y : ℕ → Block) (m n : ℕ) : ℕ → ℕ → Type 0 where
  stay : {i j : ℕ} → i ≡ m → j ≡ n → Path X Y m n i j
  move : {i j a b : ℕ} → Move X Y i j a b → Path X Y m n a b → Path X Y m n i j

-- Positions up to U, which is past all blocks: below U each run has room and ends by U.
pub record Bounded (X : ℕ → Block) (U : ℕ) : Type 0 where
  pub room : (p : ℕ) → p < U → 0 < (X p).upper
  pub within : (p : ℕ) → p < U → p + (X p).upper ≤ U
  pub no_run : (X U).lower ≡ 0 → ⊥
  pub no_character : (c : ℕ) → Holds (X U).base c → ⊥

-- The relation of equality of two texts.
abbrev pub Same : List ℕ → List ℕ → Type 0
Same t u = t ≡ u
