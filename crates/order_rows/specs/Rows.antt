-- Sets of positions of a shape that tell, state by state, which of its texts keep to the right side of a fixed text.
-- X says what the shape allows up to U, G is the guide.
use Rattle.std.specs.Prelude.{◌≡◌, List, ◌⊎◌, ℕ, ◌+◌, ◌≤◌, ◌<◌}
use Rattle.bases.specs.Base.{Holds, Meets}
use Rattle.sets.specs.declared.Set.{Set}
use Rattle.sets.specs.Set.{Exactly}
use Rattle.shapes.specs.Shape.{Block}
use Rattle.walks.specs.Walk.{Path}
use Rattle.rows.specs.Row.{row_in}
use Rattle.order_sides.specs.Guide.{Guide, Clear, Even, Free}

-- Some text leads to position i and matches T so far, of which q characters are matched; T q is its next character, as
-- a base.
abbrev pub Matches : (ℕ → Block) → (ℕ → ℕ) → ℕ → ℕ → Type 0
Matches X T i q = Path X (λ s. record { base = T s; lower = 1; upper = 1 }) i q 0 0

-- Row q has those positions, up to row n.
pub record MatchRows (X : ℕ → Block) (T : ℕ → ℕ) (rows : List Set) (n : ℕ) : Type 0 where
  pub row : (q : ℕ) → q ≤ n → Exactly (row_in rows q) (λ i. Matches X T i q)

-- No text matches h characters of T, or more.
abbrev pub Limit : (ℕ → Block) → (ℕ → ℕ) → ℕ → Type 0
Limit X T h = (i q : ℕ) → Matches X T i q → q < h

-- Of the positions where some text matches T so far, c has those from which some rest is on the right side.
pub record Right (X : ℕ → Block) (G : Guide) (U q c : ℕ) : Type 0 where
  pub so : (i : ℕ) → Holds c i → Clear X G U i q
  pub has : (i : ℕ) → Even X G i q → Clear X G U i q → Holds c i

-- What the base at a position is to the guide at state q: it holds the next character of T; it holds one that parts
-- from T; it does, or all is read and the text may end.
pub record Sorted (X : ℕ → Block) (G : Guide) (U q same apart over : ℕ) : Type 0 where
  pub stays : Exactly same (λ i. Meets (X i).base (G.same q))
  pub parts : Exactly apart (λ i. Meets (X i).base (G.apart q))
  pub leaves : Exactly over (λ i. ((i ≡ U) × (0 < G.ends q)) ⊎ Meets (X i).base (G.apart q))

-- Some text on the right side matches T up to position i and state q. There its run ends early, or it takes the next
-- character of T, or it parts from T.
pub record QuitsAt (X : ℕ → Block) (G : Guide) (U q i : ℕ) : Type 0 where
  pub reached : Even X G i q
  pub enough : (X i).lower ≡ 0
  pub on : Clear X G U (i + (X i).upper) q

pub record Moves (X : ℕ → Block) (G : Guide) (U q i : ℕ) : Type 0 where
  pub reached : Even X G i q
  pub meets : Meets (X i).base (G.same q)
  pub on : Clear X G U (i + 1) (q + 1)

pub record PartsAt (X : ℕ → Block) (G : Guide) (q i : ℕ) : Type 0 where
  pub reached : Even X G i q
  pub meets : Meets (X i).base (G.apart q)

-- Some state from lo on and before hi has P.
pub record During (lo hi : ℕ) (P : ℕ → Type 0) : Type 0 where
  pub state : ℕ
  pub from : lo ≤ state
  pub before : state < hi
  pub has : P state

-- The positions of each kind, of the states from lo on and before hi.
pub record PassAlong (X : ℕ → Block) (G : Guide) (U lo hi clear quit moved parted : ℕ) : Type 0 where
  pub rests : Right X G U lo clear
  pub quits : Exactly quit (λ i. During lo hi (λ q. QuitsAt X G U q i))
  pub moves : Exactly moved (λ i. During lo hi (λ q. Moves X G U q i))
  pub parts : Exactly parted (λ i. During lo hi (λ q. PartsAt X G q i))

-- Some text on the right side takes c, staying with T or parting from it there, at a position of `slot` and a state
-- from lo on and before hi.
pub data Brings (X : ℕ → Block) (G : Guide) (U slot lo hi c : ℕ) : Type 0 where
  stays : (q i : ℕ) → lo ≤ q → q < hi → Holds slot i → Moves X G U q i → Holds (G.same q) c → Brings X G U slot lo hi c
  parts : (q i : ℕ) → lo ≤ q → q < hi → Holds slot i → PartsAt X G q i → Holds (G.apart q) c → Brings X G U slot lo hi c

-- The characters that the positions S j are brought, for each j below k.
pub record Brought (X : ℕ → Block) (G : Guide) (U : ℕ) (S : ℕ → ℕ) (k lo hi : ℕ) (A : ℕ → ℕ) : Type 0 where
  pub so : (j c : ℕ) → j < k → Holds (A j) c → Brings X G U (S j) lo hi c
  pub has : (j c : ℕ) → j < k → Brings X G U (S j) lo hi c → Holds (A j) c

-- At any state, or once the text is on the right side already.
pub data MayQuit (X : ℕ → Block) (G : Guide) (U i : ℕ) : Type 0 where
  even : (q : ℕ) → QuitsAt X G U q i → MayQuit X G U i
  free : i ≤ U → (X i).lower ≡ 0 → Free X G i → MayQuit X G U i

pub data MayMove (X : ℕ → Block) (G : Guide) (U i : ℕ) : Type 0 where
  even : (q : ℕ) → Moves X G U q i → MayMove X G U i
  free : i + 1 ≤ U → Free X G (i + 1) → MayMove X G U i

pub data MayTake (X : ℕ → Block) (G : Guide) (U slot c : ℕ) : Type 0 where
  stays : (q i : ℕ) → Holds slot i → Moves X G U q i → Holds (G.same q) c → MayTake X G U slot c
  parts : (q i : ℕ) → Holds slot i → PartsAt X G q i → Holds (G.apart q) c → MayTake X G U slot c
  free : (i : ℕ) → Holds slot i → i ≤ U → c < 256 → Free X G i → MayTake X G U slot c

-- All that is to be known of the texts on the right side, block by block.
pub record Known (X : ℕ → Block) (G : Guide) (U : ℕ) (S : ℕ → ℕ) (k quit moved : ℕ) (A : ℕ → ℕ) : Type 0 where
  pub quits : Exactly quit (MayQuit X G U)
  pub moves : Exactly moved (MayMove X G U)
  pub so : (j c : ℕ) → j < k → Holds (A j) c → MayTake X G U (S j) c
  pub has : (j c : ℕ) → j < k → MayTake X G U (S j) c → Holds (A j) c
