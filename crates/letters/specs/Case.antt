-- Document 02, order 9: whether a base has a character, and whether two bases can stand for one character, without
-- regard to case.
use Rattle.std.specs.Prelude.{◌≡◌, ℕ}
use Rattle.bases.specs.Base.{Holds}
use Rattle.texts.specs.Case.{lowered}

-- The base b holds the character c, in one case or the other (document 02, order 9).
pub record SomeCase (b c : ℕ) : Type 0 where
  pub like : ℕ
  pub held : Holds b like
  pub same : lowered like ≡ lowered c

-- Two bases can stand for one character, letters of either case counting as one (document 02, order 9).
pub record MeetsAnyCase (a b : ℕ) : Type 0 where
  pub first : ℕ
  pub second : ℕ
  pub in_first : Holds a first
  pub in_second : Holds b second
  pub same : lowered first ≡ lowered second
