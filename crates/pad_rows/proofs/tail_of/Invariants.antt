-- `pad_rows::tail_of`: before each block the rows have all from its start on, since a block leads on exactly if its end
-- does. Assumes nothing.
use Rattle.sets.specs.Set.{set_of}
use Rattle.shapes.specs.Shape.{total}
use Rattle.shapes.specs.Lent.{shape_of}
use Rattle.row_lay.specs.Lay.{start}
use Rattle.pads.specs.Pad.{padded_at}
use Rattle.pad_rows.proofs.Back.{TailsFrom}
use Rattle.pad_rows.proofs.tail_of.Given as goal

abbrev pub invariant-loop-j : goal.invariant-loop-j
invariant-loop-j l = TailsFrom (padded_at (set_of l.pad) (shape_of l.y)) (set_of l.pad) (total (shape_of l.y)) (start (shape_of l.y) l.j) l.t
