-- `row_blocks::narrow_blocks`: the blocks before block i are what is told of them, and end at p. Assumes nothing.
use mathlib.Core.Path.{◌≡◌, refl, sym, ap}
use Prim.Native.Nat.{◌+◌, ◌≤◌}
use native.Mathlib.Omega.{arith}
use Rattle.shapes.specs.Shape.{Block, block_count}
use Rattle.shapes.specs.Lent.{shape_of}
use Rattle.row_lay.proofs.Laid.{total_zero, total_more, upper_within}
use Rattle.row_blocks.proofs.Blocks.{any_at, told_none, told_more, told_to}
use Rattle.row_blocks.proofs.narrow_blocks.Goals as goal
use Rattle.row_blocks.proofs.narrow_blocks.Goals.{After-block_at-b}

-- the block ends within the shape
within : (c : After-block_at-b) → c.loop-i.p + c.block_at-b.result.upper ≤ 250
within c =
    let up = ap (λ (b : Block). b.upper) c.block_at-b.ensures.result_value in
    let h = upper_within c.args.x.now c.loop-i.i (omega arith) in
    omega arith

pub loop-i-init : goal.loop-i-init
loop-i-init c = (sym (total_zero (shape_of c.args.x.now)), told_none _)

pub told-requires : goal.told-requires
told-requires c =
    record {
      small = c.block_at-b.ensures.small;
      upper_bound = within (goal.at.told-requires c).After-block_at-b;
      any_length = any_at c.loop-i.invariant.0 c.block_at-b.ensures.result_value (c.requires.some_length c.loop-i.i (omega arith));
    }

pub put_block-requires : goal.put_block-requires
put_block-requires c =
    let long = c.loop-i.invariant.1.long in
    record {
      i_bound = omega arith;
      small = c.told.ensures.small_2;
    }

pub overflow_add-p : goal.overflow_add-p
overflow_add-p c = let h = within (goal.at.overflow_add-p c).After-block_at-b in omega arith

pub loop-i-preserved : goal.loop-i-preserved
loop-i-preserved c =
    let l = c.loop-i in
    let up = ap (λ (b : Block). b.upper) c.block_at-b.ensures.result_value in
    let more = total_more c.args.x.now l.i (omega arith) in
    let e = l.invariant.0 in
    (omega arith, told_more e c.block_at-b.ensures.result_value refl l.invariant.1 c.told.ensures.told_by c.put_block.ensures)

pub returns : goal.returns
returns c = told_to (let l = c.loop-i in let e : l.i ≡ block_count c.args.x.now = omega arith in e) c.loop-i.invariant.1
