-- `trays::sweep_tray`: each turn puts one record more. Assumes nothing.
use native.Mathlib.Omega.{arith}
use Rattle.trays.proofs.Filling.{one_more}
use Rattle.trays.proofs.sweep_tray.Goals as goal

pub loop-i-preserved : goal.loop-i-preserved
loop-i-preserved c =
    let l = c.loop-i in
    let e = l.invariant.same_length in
    let counted = c.in_ok-n.ensures in
    let room = counted.0.row in
    one_more c.args.blocks.now c.args.pairs.now l.i c.args.row.now l.row c.record_at.result l.invariant (omega arith) c.record_at.ensures
