-- `forth_rows::forth`: each row is the closure of what enters it; one character on, or the end of the run, enters the
-- next. Assumes nothing.
use Rattle.std.proofs.Common.{◌≡◌, ◌+◌, ◌<◌, length, arith}
use Rattle.rows.proofs.Rows.{put_row}
use Rattle.forth_rows.proofs.Rows.{rows_none, rows_more, rows_block, rows_end, before_none, before_more, put_as}
use Rattle.forth_rows.proofs.forth.Goals as goal

pub loop-o-init : goal.loop-o-init
loop-o-init g c = (before_none _, record { holds = λ X Y z k m x. rows_none _ c.none-stopped.ensures x })

pub loop-o-preserved : goal.loop-o-preserved
loop-o-preserved g c =
    let R = g.R.Row in
    let l = c.loop-o in
    let r = c.requires in
    let closed = c.forth-row.ensures.holds _ _ _ r.in_turn r.together in
    let room : c.args.p + l.o < length l.rows = omega arith in
    let put = put_as c.set.ensures.set (put_row l.rows (c.args.p + l.o) _ room) in (
      before_more (omega arith) l.invariant.0 put,
      record {
        holds = λ X Y z k m x. rows_more (R.bits c.args.mine) (R.bits c.args.waits) (R.bits c.forth-row.result) z k m (omega arith) (l.invariant.1.holds X Y z k m x) closed put
            c.with-stopped.ensures.result_value c.with-stopped.ensures.result_value_2 c.onward-enter.ensures;
      },
    )

pub returns : goal.returns
returns g c =
    let l = c.loop-o in
    record {
      follows = record { holds = λ X Y z k m x. rows_block k (rows_end (let e : l.o ≡ _ = omega arith in e) (l.invariant.1.holds X Y z k m x)) c.either.ensures };
      rows_kept = l.invariant.0;
    }
