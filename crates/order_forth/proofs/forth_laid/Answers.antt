-- `order_forth::forth_laid`: each row is the closure of the row before, one character on; past an empty row there is none.
-- Assumes nothing.
use native.Mathlib.Omega.{arith}
use mathlib.Core.Path.{refl}
use Rattle.row_paths.proofs.Laid.{laid_turn}
use Rattle.rows.proofs.Rows.{put_row}
use Rattle.order_forth.proofs.Pass.{forth_first, forth_more, forth_empty}
use Rattle.order_forth.proofs.forth_laid.Goals as goal

pub loop-q-init : goal.loop-q-init
loop-q-init c =
    let l = c.requires.laid in
    forth_first l _ c.requires.rows_len c.single.ensures (c.close_forth-row.ensures.holds _ _ _ (laid_turn l l.long) c.all_runs-runs.ensures)
    (put_row _ _ _ (let w = c.requires.rows_len in omega arith))

pub returns-then-is_empty-clause-forth : goal.returns-then-is_empty-clause-forth
returns-then-is_empty-clause-forth c = forth_empty c.loop-q.invariant (c.is_empty.ensures.so c.if-is_empty.true)

pub loop-q-preserved : goal.loop-q-preserved
loop-q-preserved c =
    let l = c.requires.laid in
    forth_more l _ c.loop-q.invariant c.loop-q-test.true refl c.next_mask-mask.ensures c.both.ensures c.up.ensures
    (c.close_forth-row-in-loop-q.ensures.holds _ _ _ (laid_turn l l.long) c.all_runs-runs.ensures)
    (put_row _ _ _ (let w = c.loop-q.invariant.long in omega arith))
