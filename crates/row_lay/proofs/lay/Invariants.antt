-- `row_lay::lay`: the rows before row j are those of the blocks before block j, which end at p. Assumes nothing.
use Rattle.std.proofs.Common.{◌≡◌, take}
use Rattle.shapes.specs.Shape.{total}
use Rattle.shapes.specs.Lent.{shape_of}
use Rattle.row_lay.specs.Lay.{LayTo}
use Rattle.row_lay.proofs.lay.Given as goal

abbrev pub invariant-loop-j : goal.invariant-loop-j
invariant-loop-j l = (l.p ≡ total (take l.j (shape_of l.shape))) × LayTo (shape_of l.shape) l.j l.layout
