-- The texts that some blocks, and so many characters of one more, can read.
use Rattle.std.specs.Prelude.{◌≡◌, List, ◌++◌, ◌⊎◌, ℕ, ◌≤◌, length}
use Rattle.bases.specs.Base.{Holds}
use Rattle.plain.specs.All.{All}
use Rattle.shapes.specs.Shape.{Block, Fits}

-- t is a text of s and then o characters of the base.
pub record RanOn (s : List Block) (base o : ℕ) (t : List ℕ) : Type 0 where
  pub front : List ℕ
  pub run : List ℕ
  pub fits : Fits s front
  pub held : All (Holds base) run
  pub long : length run ≡ o
  pub text : t ≡ front ++ run

-- t is the start of a text that fits s.
pub record Begun (s : List Block) (t : List ℕ) : Type 0 where
  pub rest : List ℕ
  pub fits : Fits s (t ++ rest)

-- t is a text of s and then at most o characters of the base: o of them, or so many that the run may end.
pub record ReadWithin (s : List Block) (base lower o : ℕ) (t : List ℕ) : Type 0 where
  pub count : ℕ
  pub few : count ≤ o
  pub enough : (lower ≤ count) ⊎ (count ≡ o)
  pub ran : RanOn s base count t

-- What is read up to o characters of the block after s.
pub record Reading (s : List Block) (base o : ℕ) (t : List ℕ) : Type 0 where
  pub count : ℕ
  pub few : count ≤ o
  pub ran : RanOn s base count t

abbrev pub ReadTo : List Block → ℕ → ℕ → List ℕ → Type 0
ReadTo s base o t = Begun s t ⊎ Reading s base o t
