-- What falls in a run: a number for a list of blocks, less for narrower blocks. The runner ends by it.
use Rattle.std.specs.Prelude.{List, [], ◌∷◌, ℕ, zero, suc, ◌+◌, ◌-◌, ◌/◌, ◌%◌}
use Rattle.shapes.specs.Shape.{Block}
use Rattle.bases.specs.Base.{codes}

-- how many of the characters below k a base holds
unfoldable pub held : ℕ → ℕ → ℕ
held zero b = 0
held (suc k) b = b % 2 + held k (b / 2)

-- the room of some blocks: how many characters their bases hold, and by how much their counts may differ
unfoldable pub room_of : List Block → ℕ
room_of [] = 0
room_of (b ∷ S) = held codes b.base + (b.upper - b.lower) + room_of S
