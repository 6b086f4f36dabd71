-- `sweep_places::block` counts a block's number from 1. Assumes nothing.
use mathlib.Core.Path.{sym, ◌∙◌}
use Prim.Native.Nat.{◌-◌}
use native.Mathlib.Omega.{arith}
use Rattle.shapes.proofs.Lent.{shape_at}
use Rattle.shapes.specs.Shape.{no_block}
use Rattle.sweep_places.proofs.block.Goals as goal

pub returns : goal.returns
returns c =
    let s = c in
    let p = s.requires in
    c.block_at.ensures.result_value ∙ sym (shape_at s.args.s.now (s.args.i.0 - 1) no_block (omega arith))
