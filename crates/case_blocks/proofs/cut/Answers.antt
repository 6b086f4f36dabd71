-- `case_blocks::cut`: the blocks before block i are cut, the others as they were. Assumes nothing.
use mathlib.Core.Path.{◌≡◌}
use Prim.Native.Nat.{◌-◌}
use native.Mathlib.Omega.{arith}
use Rattle.shapes.specs.Shape.{block_count}
use Rattle.bases.proofs.Sets.{cut_small}
use Rattle.bases.specs.Base.{codes}
use Rattle.case_blocks.proofs.Steps.{cut_none, cut_block_lem, cut_more, cut_whole}
use Rattle.case_blocks.proofs.cut.Goals as goal

pub loop-i-init : goal.loop-i-init
loop-i-init c = cut_none _

pub block_at-j-requires : goal.block_at-j-requires
block_at-j-requires c =
    let l = c in
    let room = l.requires in
    let long = l.loop-i.invariant.long in
    omega arith

pub put_block-requires : goal.put_block-requires
put_block-requires c =
    let b = c in
    let l = b in
    let room = l.requires in
    let long = l.loop-i.invariant.long in
    record {
      i_bound = omega arith;
      small = cut_small codes _ _ c.both.ensures b.block_at-b.ensures.small;
    }

pub loop-i-preserved : goal.loop-i-preserved
loop-i-preserved c =
    cut_more c.loop-i.invariant (cut_block_lem c.block_at-b.ensures.result_value c.block_at-j.ensures.result_value c.both.ensures) c.put_block.ensures

pub returns : goal.returns
returns c = let l = c.loop-i in cut_whole (let e : l.i ≡ block_count c.args.x.now = omega arith in e) l.invariant
