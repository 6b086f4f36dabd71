-- `case_blocks::widen`: the blocks before block i are laid with both cases. Assumes nothing.
use mathlib.Core.Path.{◌≡◌}
use Prim.Native.Nat.{◌-◌}
use native.Mathlib.Omega.{arith}
use Rattle.shapes.specs.Shape.{block_count}
use Rattle.letters.proofs.Bases.{both_small}
use Rattle.case_blocks.proofs.Steps.{widened_none, widened_block, widened_more, widened_whole}
use Rattle.case_blocks.proofs.widen.Goals as goal

pub loop-i-init : goal.loop-i-init
loop-i-init c = widened_none _

pub put_block-requires : goal.put_block-requires
put_block-requires c =
    let b = c in
    let l = b in
    let room = l.requires in
    let long = l.loop-i.invariant.long in
    record {
      i_bound = omega arith;
      small = both_small c.both_cases.ensures b.block_at-b.ensures.small;
    }

pub loop-i-preserved : goal.loop-i-preserved
loop-i-preserved c = let t = c in widened_more c.loop-i.invariant (widened_block c.block_at-b.ensures.result_value t.both_cases.ensures) c.put_block.ensures

pub returns : goal.returns
returns c = let l = c.loop-i in widened_whole (let e : l.i ≡ block_count c.args.x.now = omega arith in e) l.invariant
