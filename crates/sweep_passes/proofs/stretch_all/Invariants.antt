-- `sweep_passes::stretch_all`: the places of the blocks from i on are kept, and the end reached. Assumes nothing.
use Rattle.shapes.specs.Lent.{shape_of}
use Rattle.sweep_passes.proofs.Kept.{StretchesKept}
use Rattle.sweep_passes.proofs.stretch_all.Given as goal

abbrev pub invariant-loop-i : goal.invariant-loop-i
invariant-loop-i l = StretchesKept (shape_of l.x) (shape_of l.y) l.initial.kept l.kept l.reached l.looks l.i
