-- `common_weighs::sooner`: the least of what is shared, if anything is, and if it comes sooner. Assumes nothing.
use Rattle.sets.specs.Set.{set_of, Exactly}
use Rattle.shapes.specs.Lent.{shape_of}
use Rattle.walks.specs.Walk.{slot_at}
use Rattle.common_weighs.specs.Code.{SharedAt}
use lib.Seq.{length-take-le}
use Rattle.common_weighs.proofs.Ends.{slotted_part, shared_row, sooner_no_row, sooner_none, sooner_least}
use Rattle.common_weighs.proofs.sooner.Goals as goal
use Rattle.common_weighs.proofs.sooner.Goals.{After-both-shared}

-- what is shared
shares : (c : After-both-shared) → let a = c.args in Exactly (set_of c.both-shared.result) (SharedAt (slot_at (shape_of a.y.now)) (set_of a.base) (set_of a.row))
shares c = let l = c.requires in shared_row (slotted_part l) (length-take-le _ _ l.long) (set_of _) (set_of _) c.joined.ensures c.both-shared.ensures

pub returns-then-is_empty : goal.returns-then-is_empty
returns-then-is_empty c = sooner_no_row (c.is_empty.ensures.so c.if-is_empty.true)

pub returns-then-is_empty-2 : goal.returns-then-is_empty-2
returns-then-is_empty-2 c = sooner_none (shares (goal.at.returns-then-is_empty-2 c).After-both-shared) (c.is_empty-2.ensures.so c.if-is_empty-2.true)

pub returns : goal.returns
returns c = let f = c.first.ensures in sooner_least (shares (goal.at.returns c).After-both-shared) _ c.min.ensures f.0 f.1
