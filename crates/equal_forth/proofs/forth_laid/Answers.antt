-- `equal_forth::forth_laid`: block by block, what the last block leaves enters the next. Assumes nothing.
use Rattle.std.proofs.Common.{◌+◌, ◌≤◌, ◌<◌, length, ap, ◌∙◌, arith}
use Rattle.shapes.specs.Shape.{Block}
use Rattle.row_lay.proofs.Laid.{upper_within, total_all}
use Rattle.rows.proofs.Rows.{put_row}
use Rattle.row_paths.proofs.Lent.{mine_at, padded_zones_at, shares_at}
use Rattle.row_paths.proofs.Laid.{laid_turn}
use Rattle.equal_forth.proofs.Pass.{pass_none, pass_more, pass_all}
use Rattle.equal_forth.proofs.forth_laid.Goals as goal
use Rattle.equal_forth.proofs.forth_laid.Goals.{After-block_at-b, After-loop-i}

-- the block ends within the shape
within : (c : After-block_at-b) → (c.loop-i.p + c.block_at-b.result.upper ≤ 250) × (c.loop-i.p + c.block_at-b.result.upper ≤ length c.loop-i.rows)
within c =
    let u = ap (λ (b : Block). b.upper) c.block_at-b.ensures.result_value in
    let h = upper_within c.args.x.now c.loop-i.i (omega arith) in
    let short = c.requires.whole.short in
    let e = c.loop-i.invariant.place in
    let room = c.requires.x_bound.1 in
    (omega arith, omega arith)

-- there is a row for the end
end_within : (c : After-loop-i) → (c.loop-i.p ≤ 250) × (c.loop-i.p < length c.loop-i.rows)
end_within c =
    let place = c.loop-i.invariant.place ∙ total_all c.args.x.now c.loop-i.i (omega arith) in
    let short = c.requires.whole.short in
    let room = c.requires.x_bound.1 in
    (omega arith, omega arith)

pub loop-i-init : goal.loop-i-init
loop-i-init c = pass_none _ c.single-s.ensures

pub waiting-waits-requires : goal.waiting-waits-requires
waiting-waits-requires c = let m = c.total_upper-m.ensures in let short = c.requires.laid.whole.short in omega arith

pub forth_block-s-requires : goal.forth_block-s-requires
forth_block-s-requires c =
    record {
      in_turn = laid_turn c.requires.laid c.requires.laid.long;
      together = c.all_runs-runs.ensures;
      upper_bound = within (goal.at.forth_block-s-requires c).After-block_at-b;
    }

pub overflow_add-p : goal.overflow_add-p
overflow_add-p c = let h = within (goal.at.overflow_add-p c).After-block_at-b in omega arith

pub loop-i-preserved : goal.loop-i-preserved
loop-i-preserved c =
    let l = c.loop-i in
    let y = c.args.y.now in
    let d = c.requires.laid in
    let f = c.forth_block-s.ensures in
    let matched = c.matching-mine.ensures in
    let room : l.i < length l.mines = omega (arith, c.requires.x_bound.0) in
    pass_more (omega arith) c.block_at-b.ensures.result_value (padded_zones_at _ y d.long d.lay d.whole.short) (mine_at y d.long d.lay matched)
    (shares_at _ y d.long d.lay d.whole.short c.total_upper-m.ensures matched c.waiting-waits.ensures) l.invariant (put_row l.mines l.i _ room) f.follows f.rows_kept

pub offset_bounds-rows-p : goal.offset_bounds-rows-p
offset_bounds-rows-p c = let h = end_within (goal.at.offset_bounds-rows-p c).After-loop-i in omega arith

pub bounds-rows-p : goal.bounds-rows-p
bounds-rows-p c = (end_within (goal.at.bounds-rows-p c).After-loop-i).1

pub returns-clause-pass : goal.returns-clause-pass
returns-clause-pass c =
    let l = c.loop-i in
    pass_all (omega arith) l.invariant c.trail-last.ensures (put_row l.rows l.p _ (end_within (goal.at.returns-clause-pass c).After-loop-i).1)
