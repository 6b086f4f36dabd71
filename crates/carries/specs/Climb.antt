-- Numbers above and below those of a set, with no gap between.
use Rattle.std.specs.Prelude.{ℕ, ◌+◌, ◌^◌, ◌<◌, ◌≤◌, List, length}
use Rattle.bases.specs.Base.{Holds}
use Rattle.sets.specs.declared.Set.{Set}
use Rattle.sets.specs.Set.{Exactly}
use Rattle.rows.specs.Row.{row_in}

-- from p up to q, q left out, z holds all
abbrev pub HeldThrough : ℕ → ℕ → ℕ → Type 0
HeldThrough z p q = (t : ℕ) → p ≤ t → t < q → Holds z t

-- q lies past a number of s, and z holds all from there up to q
pub record Climbs (z s q : ℕ) : Type 0 where
  pub from : ℕ
  pub held : Holds s from
  pub past : from < q
  pub filled : HeldThrough z from q

-- q lies before a number of s, and z holds all from q up to there
pub record Falls (z s q : ℕ) : Type 0 where
  pub to : ℕ
  pub held : Holds s to
  pub before : q < to
  pub filled : HeldThrough z q to

-- by at most d
pub record Near (z s d q : ℕ) : Type 0 where
  pub falls : Falls z s q
  pub near : falls.to ≤ q + d

-- r has what falls to s, whichever set g has those of it for that lie one below
pub record FallsFrom (z g r : ℕ) : Type 0 where
  pub holds : (s : ℕ) → Exactly g (Near z s 1) → Exactly r (Falls z s)

-- from q on z holds d numbers
abbrev pub Goes : ℕ → ℕ → ℕ → Type 0
Goes z d q = HeldThrough z q (q + d)

-- z holds no more than d numbers without a gap
abbrev pub NoFarther : ℕ → ℕ → Type 0
NoFarther z d = (p q : ℕ) → p < q → HeldThrough z p q → q ≤ p + d

-- row l has those from which z goes on for 2 ^ l numbers, up to a length that none goes beyond; where z is one word
-- there may be no row
pub record Spans (z : ℕ) (rows : List Set) : Type 0 where
  pub few : length rows ≤ 8
  pub each : (l : ℕ) → l < length rows → Exactly (row_in rows l) (Goes z (2 ^ l))
  pub far : 2 ^ 64 ≤ z → NoFarther z (2 ^ length rows)
