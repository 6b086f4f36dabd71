-- `equal_back::back_laid`: block by block from the last, each begun with nothing used; what it has used gives the characters
-- of both sides. Assumes nothing.
use Rattle.std.proofs.Common.{◌≡◌, ℕ, ◌+◌, ◌-◌, ◌≤◌, ◌<◌, length, refl, ap, arith}
use Rattle.shapes.specs.Shape.{Block, total, block_count}
use Rattle.shapes.specs.Lent.{shape_of}
use Rattle.row_lay.proofs.Laid.{upper_within}
use Rattle.rows.proofs.Rows.{put_row}
use Rattle.row_paths.proofs.Laid.{laid_turn}
use Rattle.equal_back.proofs.Pass.{pass_end, pass_more, pass_place, own_told, others_told}
use Rattle.equal_back.proofs.back_laid.Goals as goal
use Rattle.equal_back.proofs.back_laid.Goals.{After-block_at-b}

-- the block starts within the shape, and ends where the one after it starts
within : (c : After-block_at-b) → (c.block_at-b.result.upper ≤ c.loop-i.p) × (c.loop-i.p ≤ 250) × (c.loop-i.p ≤ length c.args.rows.now)
within c =
    let l = c.loop-i in
    let x = c.args.x.now in
    let u = ap (λ (b : Block). b.upper) c.block_at-b.ensures.result_value in
    let n : ℕ = l.i - 1 in
    let in_shape : n < block_count x = omega arith in
    let end = upper_within x n in_shape in
    let short = c.requires.whole.short in
    let room = c.requires.roomed.rows_long in
    let e = pass_place x n in_shape (let d : l.i ≡ n + 1 = omega arith in d) l.invariant in
    let last : l.p ≤ total (shape_of x) = omega arith in
    (omega arith, omega arith, omega arith)

less-and-more : (p u : ℕ) {n : ℕ} → u ≤ p → p ≤ n → p - u + u ≤ n
less-and-more p u h l = omega arith

pub loop-i-init : goal.loop-i-init
loop-i-init c =
    pass_end _ c.args.x.now c.args.y.now c.requires.laid c.requires.pass refl c.total_upper-p.ensures c.at_end-g.ensures refl c.requires.others_value
    c.give.ensures.given

pub overflow_sub-p : goal.overflow_sub-p
overflow_sub-p c = (within c).0

pub back_block-g-requires-clause-in_turn : goal.back_block-g-requires-clause-in_turn
back_block-g-requires-clause-in_turn c = laid_turn c.requires.laid c.requires.laid.long

pub back_block-g-requires-clause-upper_bound : goal.back_block-g-requires-clause-upper_bound
back_block-g-requires-clause-upper_bound c =
    let h = within (goal.at.back_block-g-requires-clause-upper_bound c).After-block_at-b in
    (less-and-more _ _ h.0 h.1, less-and-more _ _ h.0 h.2)

pub loop-i-preserved : goal.loop-i-preserved
loop-i-preserved c =
    let l = c.loop-i in
    let g = c.chars.ensures in
    let w = within (goal.at.loop-i-preserved c).After-block_at-b in
    let room : l.i - 1 < length l.own = omega (arith, c.requires.roomed.own_long) in
    pass_more _ c.args.x.now c.args.y.now c.requires.laid c.requires.pass (omega arith) (omega arith) c.block_at-b.ensures.result_value (omega arith)
    c.total_upper-m.ensures l.invariant c.fresh.ensures refl c.waiting-waits.ensures c.back_block-g.ensures g.chars (put_row l.own (l.i - 1) _ room)
    g.given c.either-moved.ensures

pub returns-clause-side_told : goal.returns-clause-side_told
returns-clause-side_told c = own_told (omega arith) c.loop-i.invariant

pub returns-clause-side_told_2 : goal.returns-clause-side_told_2
returns-clause-side_told_2 c = others_told (omega arith) c.loop-i.invariant
