-- Two texts that are equal but for padding at their ends. The padding is a base: of no character, and then they are
-- equal, or of the blank alone.
use Rattle.std.specs.Prelude.{◌≡◌, List, ◌++◌, ◌⊎◌, ℕ, ◌^◌}
use Rattle.bases.specs.Base.{Holds}
use Rattle.plain.specs.All.{All}

-- The base of the blank alone.
abbrev pub blanks : ℕ
blanks = 2 ^ 32

-- t is u with padding behind it.
pub record Behind (pad : ℕ) (t u : List ℕ) : Type 0 where
  pub rest : List ℕ
  pub held : All (Holds pad) rest
  pub joined : t ≡ u ++ rest

-- One of the two is the other with padding behind it.
abbrev pub But : ℕ → List ℕ → List ℕ → Type 0
But pad t u = Behind pad t u ⊎ Behind pad u t
