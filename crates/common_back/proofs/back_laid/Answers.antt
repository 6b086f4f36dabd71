-- `common_back::back_laid`: the last row first, then block by block from the last, each from the row at its end. Assumes
-- nothing.
use mathlib.Core.Path.{◌≡◌, refl, ap, ◌∙◌}
use Prim.Native.Nat.{ℕ, ◌+◌, ◌-◌, ◌≤◌, ◌<◌}
use native.Mathlib.Omega.{arith}
use Rattle.shapes.specs.Shape.{Block, block_count}
use Rattle.rows.proofs.Rows.{put_row}
use Rattle.row_lay.proofs.Laid.{upper_within}
use Rattle.row_paths.proofs.Lent.{mine_at}
use Rattle.row_paths.proofs.Laid.{laid_turn, laid_zones}
use Rattle.common_back.proofs.Pass.{pass_last, pass_more, pass_place, pass_all}
use Rattle.common_back.proofs.back_laid.Goals as goal
use Rattle.common_back.proofs.back_laid.Goals.{After-block_at-b}

-- the block starts within the shape, and ends where the one after it starts
within : (c : After-block_at-b) → (c.block_at-b.result.upper ≤ c.loop-i.p) × (c.loop-i.p ≤ 250)
within c =
    let l = c.loop-i in
    let u = ap (λ (b : Block). b.upper) c.block_at-b.ensures.result_value in
    let n : ℕ = l.i - 1 in
    let in_shape : n < block_count c.args.x.now = omega arith in
    let end = upper_within c.args.x.now n in_shape in
    let short = c.requires.whole.short in
    let e = pass_place c.args.x.now n in_shape (let d : l.i ≡ n + 1 = omega arith in d) l.invariant.2 in
    (omega arith, omega arith)

pub back_by-closed-requires-clause-in_turn : goal.back_by-closed-requires-clause-in_turn
back_by-closed-requires-clause-in_turn c = laid_turn c.requires.laid c.requires.laid.long

pub loop-i-init : goal.loop-i-init
loop-i-init c =
    let y = c.requires.laid in
    let short = c.requires.whole.short in
    let p = c.total_upper-p.ensures in
    let long = c.requires.x_bound.1 in
    let u = put_row c.args.rows.now c.total_upper-p.result c.back_by-closed.result.row (omega arith) in (
      omega arith,
      u.long ∙ long,
      pass_last (laid_zones y y.long) c.args.mines.now refl p c.total_upper-m.ensures c.single.ensures c.back_by-closed.ensures.exactly u,
    )

pub overflow_sub-p : goal.overflow_sub-p
overflow_sub-p c = (within (goal.at.overflow_sub-p c).After-block_at-b).0

pub back_block-row-requires-clause-in_turn : goal.back_block-row-requires-clause-in_turn
back_block-row-requires-clause-in_turn c = laid_turn c.requires.laid c.requires.laid.long

pub back_block-row-requires-clause-upper_bound : goal.back_block-row-requires-clause-upper_bound
back_block-row-requires-clause-upper_bound c = let h = within (goal.at.back_block-row-requires-clause-upper_bound c).After-block_at-b in (omega arith, c.loop-i.invariant.1)

pub loop-i-preserved : goal.loop-i-preserved
loop-i-preserved c =
    let l = c.loop-i in
    let y = c.requires.laid in
    let room = c.requires.x_bound.0 in
    let w = within (goal.at.loop-i-preserved c).After-block_at-b in
    let f = c.back_block-row.ensures in
    let u = put_row l.mines (l.i - 1) c.matching-mine.result (omega arith) in (
      omega arith,
      f.rows_after.long ∙ l.invariant.1,
      pass_more (laid_zones y y.long) (omega arith) (omega arith) c.block_at-b.ensures.result_value (omega arith)
          (mine_at c.args.y.now y.long y.lay c.matching-mine.ensures) l.invariant.2 u f.whenever_roomy f.rows_after,
    )

pub returns-clause-end_rows : goal.returns-clause-end_rows
returns-clause-end_rows c = let l = c.loop-i in let room = c.requires.x_bound.0 in pass_all (omega arith) (omega arith) l.invariant.1 l.invariant.2
