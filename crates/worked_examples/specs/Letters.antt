-- Bases, blocks and narrowing as document 01's table writes them: a letter's code is its ASCII code.
use Rattle.std.specs.Prelude.{List, ◌++◌, ℕ, ◌^◌, length}
use Rattle.shapes.specs.Shape.{Block}
use Rattle.hulls.specs.Hull.{Pairs, Outcome, shapes, NarrowsTo}

-- the letters, as bases of one character; {a,b,c} is a + b + c
abbrev pub a : ℕ
a = 2 ^ 97

abbrev pub b : ℕ
b = 2 ^ 98

abbrev pub c : ℕ
c = 2 ^ 99

abbrev pub d : ℕ
d = 2 ^ 100

abbrev pub e : ℕ
e = 2 ^ 101

abbrev pub f : ℕ
f = 2 ^ 102

-- the empty base
abbrev pub empty : ℕ
empty = 0

-- a base with its lower and its upper
abbrev pub block : ℕ → ℕ → ℕ → Block
block base lower upper = record { base = base; lower = lower; upper = upper }

-- Under the relation R of two texts, X and Y are narrowed to the outcome o.
pub record NarrowedTo (R : List ℕ → List ℕ → Type 0) (X Y : List Block) (o : Outcome) : Type 0 where
  pub narrows : NarrowsTo (Pairs R (length X)) (X ++ Y) o

-- The outcome that is two shapes, of X and of Y.
abbrev pub both : List Block → List Block → Outcome
both X Y = shapes (X ++ Y)
