-- Document 02, order 2: the earliest common text of two shapes in our order, if there is one.
use Rattle.std.specs.Prelude.{◌≡◌, List, ◌++◌, ℕ, length, drop, Option, Some, None}
use Rattle.shapes.specs.Shape.{Block, Fits}
use Rattle.shapes.specs.Lent.{shape_of}
use Rattle.texts.specs.Order.{AtMost}

-- t fits both shapes, and no text that fits both is before it
pub record Earliest (X Y : List Block) (t : List ℕ) : Type 0 where
  pub fits_first : Fits X t
  pub fits_second : Fits Y t
  pub no_earlier : (u : List ℕ) → Fits X u → Fits Y u → AtMost t u

-- no text fits both
pub record NoCommon (X Y : List Block) : Type 0 where
  pub none : (t : List ℕ) → Fits X t → Fits Y t → ⊥

-- It stands at the start of the output, n characters long; the bytes past it stay.
pub record TextShown (xs ys out out' : List ℕ) (n : ℕ) : Type 0 where
  pub text : List ℕ
  pub earliest : Earliest (shape_of xs) (shape_of ys) text
  pub length_is : n ≡ length text
  pub bytes : out' ≡ text ++ drop n out

-- On none nothing is written.
pub record NothingShown (xs ys out out' : List ℕ) : Type 0 where
  pub nothing : NoCommon (shape_of xs) (shape_of ys)
  pub kept : out' ≡ out

-- What the work on two accepted shapes answers: the text's length, or that there is none.
abbrev pub ShowAnswer : List ℕ → List ℕ → List ℕ → List ℕ → Option ℕ → Type 0
ShowAnswer xs ys out out' (Some n) = TextShown xs ys out out' n
ShowAnswer xs ys out out' None = NothingShown xs ys out out'
