-- Two shapes read together where padding at the ends does not count (document 02, order 5). Past all blocks stands what
-- may still come, the padding: nothing, or blanks. The end stays where it is when it takes a character of it, so that a
-- shape that has ended waits while the other goes on.
use Rattle.std.specs.Prelude.{◌≡◌, List, ℕ, zero, suc, ◌+◌, ◌≤◌, ◌<◌, eqb}
use Rattle.bases.specs.Base.{Holds, Meets}
use Rattle.shapes.specs.Shape.{Block, total}
use Rattle.walks.specs.Walk.{pick_block, slot_at}

-- Behind all blocks: the padding may come, and there is no run to end.
abbrev pub behind_all : ℕ → Block
behind_all pad = record { base = pad; lower = 1; upper = 0 }

-- What is allowed at position i of a shape with padding behind it.
unfoldable pub padded_at : ℕ → List Block → ℕ → Block
padded_at pad s i = pick_block (eqb i (total s)) (behind_all pad) (slot_at s i)

-- The position after a character: the next, but the end, which has no room, stays.
unfoldable pub one : ℕ → ℕ
one zero = 0
one (suc n) = 1

abbrev pub after : (ℕ → Block) → ℕ → ℕ
after X i = i + one (X i).upper

-- The first ends a run, or the second does, or both take one character.
pub data PadMove (X Y : ℕ → Block) (i j i' j' : ℕ) : Type 0 where
  first : (X i).lower ≡ 0 → i' ≡ i + (X i).upper → j' ≡ j → PadMove X Y i j i' j'
  second : (Y j).lower ≡ 0 → i' ≡ i → j' ≡ j + (Y j).upper → PadMove X Y i j i' j'
  both : Meets (X i).base (Y j).base → i' ≡ after X i → j' ≡ after Y j → PadMove X Y i j i' j'

-- One text, but for padding, leads both from i and j to m and n.
pub data PadPath (X Y : ℕ → Block) (m n : ℕ) : ℕ → ℕ → Type 0 where
  stay : {i j : ℕ} → i ≡ m → j ≡ n → PadPath X Y m n i j
  move : {i j a b : ℕ} → PadMove X Y i j a b → PadPath X Y m n a b → PadPath X Y m n i j

-- Positions up to U, the end: below U each run has room and ends by U; at U there is no run to end and no room.
pub record UpToEnd (X : ℕ → Block) (U : ℕ) : Type 0 where
  pub room : (p : ℕ) → p < U → 0 < (X p).upper
  pub within : (p : ℕ) → p < U → p + (X p).upper ≤ U
  pub no_run : (X U).lower ≡ 0 → ⊥
  pub no_room : (X U).upper ≡ 0

-- No padding: where a character may come there is room for it.
pub record Roomy (X : ℕ → Block) : Type 0 where
  pub has : (i c : ℕ) → Holds (X i).base c → 0 < (X i).upper

-- The second alone, while the first has ended and waits: from q its runs end, or it takes characters of the padding,
-- and it is then at j.
pub data Along (Y : ℕ → Block) (pad j : ℕ) : ℕ → Type 0 where
  here : {q : ℕ} → q ≡ j → Along Y pad j q
  skip : {q : ℕ} → (Y q).lower ≡ 0 → Along Y pad j (q + (Y q).upper) → Along Y pad j q
  take : {q : ℕ} → Meets pad (Y q).base → Along Y pad j (after Y q) → Along Y pad j q
