-- `fitting::fits_by`: the row of the blocks from i on, from the last block to the first. Assumes nothing.
use lib.ListN.{drop}
use Rattle.sets.specs.Set.{set_of}
use Rattle.shapes.specs.Lent.{shape_of}
use Rattle.fit_rows.specs.Rows.{Row}
use Rattle.fitting.proofs.fits_by.Given as goal

abbrev pub invariant-loop-i : goal.invariant-loop-i
invariant-loop-i l = Row (drop l.i (shape_of l.shape)) l.text (set_of l.row)
