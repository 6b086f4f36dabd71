-- Narrowing under equality as a function that computes: the two passes over the table, row by row, then each block.
use Rattle.std.specs.Prelude.{Bool, true, false, not, List, [], ◌∷◌, ◌++◌, ℕ, zero, suc, ◌+◌, ◌-◌, eqb, ltb, leb, get_or}
use Rattle.std.specs.Int.Bits.{bit_and, bit_or}
use Rattle.shapes.specs.Shape.{Block, total}
use Rattle.hulls.specs.Hull.{Outcome, none, shapes}
use Rattle.walks.specs.Walk.{slot_at}

unfoldable pub or : Bool → Bool → Bool
or true b = true
or false b = b

unfoldable pub and : Bool → Bool → Bool
and true b = b
and false b = false

unfoldable pub at : List Bool → ℕ → Bool
at l i = get_or l i false

unfoldable pub meet : ℕ → ℕ → Bool
meet a b = not (eqb (bit_and a b) 0)

-- f i, f (i + 1), .., n of them
unfoldable pub listed : {A : Type 0} → (ℕ → A) → ℕ → ℕ → List A
listed f i zero = []
listed f i (suc n) = f i ∷ listed f (i + 1) n

-- ---- first pass: which positions lead to the ends, from the last row and the last cell on

-- the cell of i and j, from the rows after i and the cells after j
unfoldable pub finish : (ℕ → Block) → (ℕ → Block) → ℕ → ℕ → ℕ → ℕ → List (List Bool) → List Bool → Bool
finish X Y U W i j r c =
    or (and (eqb i U) (eqb j W))
    (or (and (eqb (X i).lower 0) (at (get_or r ((X i).upper - 1) []) j))
    (or (and (eqb (Y j).lower 0) (at c ((Y j).upper - 1))) (and (meet (X i).base (Y j).base) (at (get_or r 0 []) (j + 1)))))

unfoldable pub cell_before : (ℕ → Block) → (ℕ → Block) → ℕ → ℕ → ℕ → ℕ → List (List Bool) → List Bool → List Bool
cell_before X Y U W i j r c = finish X Y U W i j r c ∷ c

unfoldable pub last_cells : (ℕ → Block) → (ℕ → Block) → ℕ → ℕ → ℕ → List (List Bool) → ℕ → List Bool
last_cells X Y U W i r zero = []
last_cells X Y U W i r (suc t) = cell_before X Y U W i (W - t) r (last_cells X Y U W i r t)

unfoldable pub row_before : (ℕ → Block) → (ℕ → Block) → ℕ → ℕ → ℕ → List (List Bool) → List (List Bool)
row_before X Y U W i r = last_cells X Y U W i r (suc W) ∷ r

unfoldable pub last_rows : (ℕ → Block) → (ℕ → Block) → ℕ → ℕ → ℕ → List (List Bool)
last_rows X Y U W zero = []
last_rows X Y U W (suc t) = row_before X Y U W (U - t) (last_rows X Y U W t)

-- ---- second pass: which positions the starts lead to; the last row and the last cell stand first

-- the positions before n from which a run can end at i
unfoldable pub from_if : Bool → ℕ → List ℕ → List ℕ
from_if true n l = n ∷ l
from_if false n l = l

unfoldable pub froms : (ℕ → Block) → ℕ → ℕ → List ℕ
froms X i zero = []
froms X i (suc n) = from_if (and (eqb (X n).lower 0) (eqb i (n + (X n).upper))) n (froms X i n)

unfoldable pub any_in : (ℕ → Bool) → List ℕ → Bool
any_in f [] = false
any_in f (n ∷ l) = or (f n) (any_in f l)

-- the cell of i and j, from the rows before i and the cells before j, and the positions from which runs end there
unfoldable pub reach : (ℕ → Block) → (ℕ → Block) → ℕ → ℕ → ℕ → List ℕ → List ℕ → List (List Bool) → List Bool → Bool
reach X Y W i j fx fy r c =
    or (and (eqb i 0) (eqb j 0))
    (or (any_in (λ a. at (get_or r (i - 1 - a) []) (W - j)) fx)
    (or (any_in (λ b. at c (j - 1 - b)) fy)
    (and (ltb 0 i) (and (ltb 0 j) (and (meet (X (i - 1)).base (Y (j - 1)).base) (at (get_or r 0 []) (W - (j - 1))))))))

unfoldable pub cell_after : (ℕ → Block) → (ℕ → Block) → ℕ → ℕ → ℕ → List ℕ → List (List ℕ) → List (List Bool) → List Bool → List Bool
cell_after X Y W i j fx fys r c = reach X Y W i j fx (get_or fys j []) r c ∷ c

unfoldable pub first_cells : (ℕ → Block) → (ℕ → Block) → ℕ → ℕ → List ℕ → List (List ℕ) → List (List Bool) → ℕ → List Bool
first_cells X Y W i fx fys r zero = []
first_cells X Y W i fx fys r (suc j) = cell_after X Y W i j fx fys r (first_cells X Y W i fx fys r j)

unfoldable pub row_after : (ℕ → Block) → (ℕ → Block) → ℕ → ℕ → List (List ℕ) → List (List Bool) → List (List Bool)
row_after X Y W i fys r = first_cells X Y W i (froms X i i) fys r (suc W) ∷ r

unfoldable pub first_rows : (ℕ → Block) → (ℕ → Block) → ℕ → List (List ℕ) → ℕ → List (List Bool)
first_rows X Y W fys zero = []
first_rows X Y W fys (suc i) = row_after X Y W i fys (first_rows X Y W fys i)

-- ---- the table

unfoldable pub sign : Bool → Bool → ℕ
sign false f = 0
sign true false = 1
sign true true = 2

-- from the rows of the two passes
unfoldable pub signs : ℕ → ℕ → List (List Bool) → List (List Bool) → List (List ℕ)
signs U W b f = listed (λ i. listed (λ j. sign (at (get_or b i []) j) (at (get_or f (U - i) []) (W - j))) 0 (suc W)) 0 (suc U)

unfoldable pub table_of : (ℕ → Block) → (ℕ → Block) → ℕ → ℕ → List (List ℕ)
table_of X Y U W = signs U W (last_rows X Y U W (suc U)) (first_rows X Y W (listed (λ j. froms Y j j) 0 (suc W)) (suc U))

unfoldable pub cell_of : List (List ℕ) → ℕ → ℕ → ℕ
cell_of t i j = get_or (get_or t i []) j 0

-- ---- one block

unfoldable pub joins : (ℕ → ℕ → ℕ) → ℕ → ℕ → ℕ → ℕ → Bool
joins T i j e d = and (eqb (T i j) 2) (ltb 0 (T e d))

unfoldable pub add : Bool → ℕ → ℕ → ℕ
add true a b = bit_or a b
add false a b = a

unfoldable pub others_at : (ℕ → ℕ → ℕ) → (ℕ → Block) → ℕ → ℕ → ℕ
others_at T Y i zero = 0
others_at T Y i (suc n) = add (joins T i n (i + 1) (n + 1)) (others_at T Y i n) (Y n).base

unfoldable pub others_within : (ℕ → ℕ → ℕ) → (ℕ → Block) → ℕ → ℕ → ℕ → ℕ
others_within T Y m p zero = 0
others_within T Y m p (suc k) = bit_or (others_within T Y m p k) (others_at T Y (p + k) m)

-- whether f holds of some number below n
unfoldable pub some : (ℕ → Bool) → ℕ → Bool
some f zero = false
some f (suc n) = or (f n) (some f n)

unfoldable pub has_length : (ℕ → ℕ → ℕ) → (ℕ → Block) → ℕ → ℕ → Block → ℕ → Bool
has_length T Y m p b zero = and (eqb b.lower 0) (some (λ j. joins T p j (p + b.upper) j) (suc m))
has_length T Y m p b (suc k) = and (leb b.lower (suc k)) (some (λ j. and (joins T (p + k) j (p + b.upper) (j + 1)) (meet b.base (Y j).base)) m)

unfoldable pub if : Bool → ℕ → ℕ → ℕ
if true a b = a
if false a b = b

-- the first of t numbers from n on of which f holds, and the last up to n
unfoldable pub first_from : (ℕ → Bool) → ℕ → ℕ → ℕ
first_from f zero n = n
first_from f (suc t) n = if (f n) n (first_from f t (n + 1))

unfoldable pub last_to : (ℕ → Bool) → ℕ → ℕ
last_to f zero = 0
last_to f (suc n) = if (f (suc n)) (suc n) (last_to f n)

unfoldable pub block_told : (ℕ → ℕ → ℕ) → (ℕ → Block) → ℕ → ℕ → Block → Block
block_told T Y m p b = record {
  base = bit_and b.base (others_within T Y m p b.upper);
  lower = first_from (has_length T Y m p b) b.upper 0;
  upper = last_to (has_length T Y m p b) b.upper;
}

unfoldable pub blocks_told : (ℕ → ℕ → ℕ) → (ℕ → Block) → ℕ → ℕ → List Block → List Block
blocks_told T Y m p [] = []
blocks_told T Y m p (b ∷ s) = block_told T Y m p b ∷ blocks_told T Y m (p + b.upper) s

-- ---- both shapes

unfoldable pub outcome : Bool → List Block → Outcome
outcome true s = none
outcome false s = shapes s

unfoldable pub from_table : List Block → List Block → List (List ℕ) → Outcome
from_table X Y t = outcome (eqb (cell_of t 0 0) 0)
    (blocks_told (cell_of t) (slot_at Y) (total Y) 0 X ++ blocks_told (λ i j. cell_of t j i) (slot_at X) (total X) 0 Y)

-- The outcome of narrowing the shapes X and Y under equality.
unfoldable pub equal_hull : List Block → List Block → Outcome
equal_hull X Y = from_table X Y (table_of (slot_at X) (slot_at Y) (total X) (total Y))
