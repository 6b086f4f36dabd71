-- `common_blocks::back_block`: row by row from the block's end to its start, each kept where it belongs. Assumes
-- nothing.
use Prim.Native.Nat.{◌+◌, ◌-◌}
use native.Mathlib.Omega.{arith}
use Rattle.sets.specs.Set.{set_of}
use Rattle.rows.proofs.Rows.{put_row}
use Rattle.common_blocks.proofs.Rows.{rows_more, after_more}
use Rattle.common_blocks.proofs.back_block.Goals as goal

pub loop-o-preserved : goal.loop-o-preserved
loop-o-preserved c =
    let l = c.loop-o in
    let put = put_row l.rows (c.args.p + (l.o - 1)) c.back_by-closed.result.row (omega arith) in (
      omega arith,
      after_more (omega arith) l.invariant.1 put,
      rows_more (set_of _) l.o (set_of _) (set_of _) (set_of _) (set_of _) (set_of _) (omega arith) (omega arith) l.invariant.2 c.down.ensures c.both-step.ensures
          c.with-step.ensures.result_value c.with-step.ensures.result_value_2 c.back_by-closed.ensures.exactly put,
    )
