-- `row_lay::lay`: the rows before row j are those of the blocks before block j, which end at p. Assumes nothing.
use Rattle.std.proofs.Common.{◌+◌, ◌≤◌, sym, ap, ◌∙◌, arith}
use Rattle.shapes.specs.Shape.{Block, no_block}
use Rattle.shapes.specs.Lent.{shape_of}
use Rattle.shapes.proofs.Lent.{shape_length, shape_at, block_sound}
use Rattle.row_lay.proofs.Laid.{total_zero, total_more, total_all, upper_within, lay_none, lay_more, lay_to}
use Rattle.row_lay.proofs.lay.Goals as goal
use Rattle.row_lay.proofs.lay.Goals.{After-block_at-b}

-- the block is in order and ends within the shape
within : (c : After-block_at-b) → let b = c.block_at-b.result in (b.lower ≤ b.upper) × (c.loop-j.p + b.upper ≤ 250)
within c =
    let low = ap (λ (b : Block). b.lower) c.block_at-b.ensures.result_value in
    let up = ap (λ (b : Block). b.upper) c.block_at-b.ensures.result_value in
    let o = (block_sound c.args.shape.now c.loop-j.j (omega arith) c.requires.whole.sound).ordered in
    let h = upper_within c.args.shape.now c.loop-j.j (omega arith) in
    (omega arith, omega arith)

pub loop-j-init : goal.loop-j-init
loop-j-init c = (sym (total_zero (shape_of c.args.shape.now)), lay_none _ _)

pub overflow_add-e : goal.overflow_add-e
overflow_add-e c = let h = within c in omega arith

pub overflow_add-p : goal.overflow_add-p
overflow_add-p c = let h = within c in omega arith

pub between-requires : goal.between-requires
between-requires c = let h = within c in (omega arith, omega arith)

pub single-requires : goal.single-requires
single-requires c = let h = within (goal.at.single-requires c).After-block_at-b in omega arith

pub between-requires-in-loop-j : goal.between-requires-in-loop-j
between-requires-in-loop-j c = let h = within (goal.at.between-requires-in-loop-j c).After-block_at-b in (omega arith, omega arith)

pub loop-j-preserved : goal.loop-j-preserved
loop-j-preserved c =
    let l = c.loop-j in
    let xs = c.args.shape.now in
    let up = ap (λ (b : Block). b.upper) c.block_at-b.ensures.result_value in
    let more = total_more xs l.j (omega arith) in
    let e = l.invariant.0 in (
      omega arith,
      lay_more l.layout _ (omega arith) l.invariant.0 (c.block_at-b.ensures.result_value ∙ sym (shape_at xs l.j no_block (omega arith)))
          l.invariant.1 c.between.ensures c.single.ensures c.between-in-loop-j.ensures,
    )

pub returns : goal.returns
returns c =
    let l = c.loop-j in
    let xs = c.args.shape.now in
    record {
      value = l.invariant.0 ∙ total_all xs l.j (omega arith);
      lay = lay_to (let e = shape_length xs in omega arith) l.invariant.1;
    }
