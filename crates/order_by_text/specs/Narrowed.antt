-- Document 01, "Narrowing", of one lent shape under a rule P of its runs: what is left in the output.
use Rattle.std.specs.Prelude.{◌≡◌, Bool, true, false, List, ◌++◌, ℕ, length, drop}
use Rattle.shapes.specs.Shape.{Block}
use Rattle.shapes.specs.Lent.{shape_of, words_of}
use Rattle.hulls.specs.Hull.{None, Hull}

-- The shape narrowed: the output has the new blocks, and past them what it had.
pub record OneNarrowed (P : List (List ℕ) → Type 0) (x out out' : List ℕ) : Type 0 where
  pub blocks : List Block
  pub hull : Hull P (shape_of x) blocks
  pub words : out' ≡ words_of blocks ++ drop (length x) out

-- What the answer r and the output are: true exactly if some filling has P.
pub record One (P : List (List ℕ) → Type 0) (x out out' : List ℕ) (r : Bool) : Type 0 where
  pub some : r ≡ true → OneNarrowed P x out out'
  pub none : r ≡ false → None P (shape_of x)
  pub kept : r ≡ false → out' ≡ out
