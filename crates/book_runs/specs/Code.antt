-- What the inner functions of the runner answer.
use Rattle.std.specs.Prelude.{Bool, true, false, List, ℕ, ◌+◌, ◌*◌, ◌≤◌}
use Rattle.shapes.specs.Shape.{Block}
use Rattle.hulls.specs.Hull.{Outcome}
use Rattle.book_runs.specs.Rounds.{Rounds}
use Rattle.book_runs.specs.Room.{room_of}

-- what a round that has changed something owes the next
abbrev pub owed : Bool → ℕ → ℕ
owed true n = n
owed false n = 0

-- The runner began with the blocks Z and has made m applications. Now it has the blocks S, before rule k of a round
-- that has changed something exactly if c is true. Whatever it goes on to from here is an outcome from Z, and it cannot
-- have made more applications than the room that is gone pays for.
pub record Made (n : ℕ) (P : ℕ → List (List ℕ) → Type 0) (Z S : List Block) (k : ℕ) (c : Bool) (m : ℕ) : Type 0 where
  pub ahead : (o : Outcome) (l : ℕ) → Rounds n P S k c o l → Rounds n P Z 0 false o (m + l)
  pub few : m + owed c n + n * room_of S ≤ n * room_of Z + k
