-- `row_blocks::narrow_blocks`: the blocks before block i are what is told of them, and end at p. Assumes nothing.
use Rattle.std.proofs.Common.{◌≡◌, take}
use Rattle.sets.specs.Set.{set_of}
use Rattle.shapes.specs.Shape.{total}
use Rattle.shapes.specs.Lent.{shape_of}
use Rattle.row_blocks.specs.Blocks.{ToldTo}
use Rattle.row_blocks.proofs.narrow_blocks.Given as goal

abbrev pub invariant-loop-i : goal.invariant-loop-i
invariant-loop-i l = (l.p ≡ total (take l.i (shape_of l.x))) × ToldTo l.chars (set_of l.quit) (set_of l.moved) l.x l.i l.initial.out l.out
