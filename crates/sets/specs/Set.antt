-- A set of numbers below 256 in four words is read as a base is: as one number with a bit for each of them.
use Rattle.std.specs.Prelude.{◌≡◌, [], ◌∷◌, ℕ, ◌+◌, ◌^◌, ◌<◌}
use Rattle.bases.specs.Base.{base_of, Holds}
use Rattle.sets.specs.declared.Set.{Set}

-- the number that a set stands for
unfoldable pub set_of : Set → ℕ
set_of s = base_of (s.a ∷ (s.b ∷ (s.c ∷ (s.d ∷ []))))

-- the numbers that n holds are exactly those that have P
pub record Exactly (n : ℕ) (P : ℕ → Type 0) : Type 0 where
  pub so : (e : ℕ) → Holds n e → P e
  pub has : (e : ℕ) → P e → Holds n e

-- e is one more than a number that n holds
pub record OneUp (n e : ℕ) : Type 0 where
  pub number : ℕ
  pub held : Holds n number
  pub next : e ≡ number + 1

-- the words of s are 64-bit words, as those of every set that the code has are
pub record Proper (s : Set) : Type 0 where
  pub a : s.a < 2 ^ 64
  pub b : s.b < 2 ^ 64
  pub c : s.c < 2 ^ 64
  pub d : s.d < 2 ^ 64
