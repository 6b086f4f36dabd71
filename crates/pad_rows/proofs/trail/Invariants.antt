-- `pad_rows::trail`: before each block the row has all that it leads to up to the block's start, since nothing crosses
-- that; past the end nothing moves. Assumes nothing.
use Rattle.sets.specs.Set.{set_of, Exactly}
use Rattle.shapes.specs.Lent.{shape_of}
use Rattle.row_lay.specs.Lay.{start}
use Rattle.pads.specs.Pad.{padded_at}
use Rattle.pad_rows.proofs.Forth.{Trailed}
use Rattle.pad_rows.proofs.trail.Given as goal

abbrev pub invariant-loop-j : goal.invariant-loop-j
invariant-loop-j l = Exactly (set_of l.r) (Trailed (padded_at (set_of l.pad) (shape_of l.y)) (set_of l.pad) (set_of l.initial.r) (start (shape_of l.y) l.j))
