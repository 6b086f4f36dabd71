-- `row_steps::give_wide`: the sets before j have what is given; from j on they are as they were. Assumes nothing.
use Rattle.std.proofs.Common.{◌<◌, refl, length, arith}
use Rattle.rows.proofs.Rows.{put_row}
use Rattle.row_steps.proofs.Steps.{giving_so, giving_not}
use Rattle.row_steps.proofs.give_wide.Goals as goal
use Rattle.row_steps.proofs.give_wide.Goals.{then-meets, else-meets}

pub loop-j-preserved : goal.loop-j-preserved
loop-j-preserved c =
    let l = c.loop-j in
    let tells = c.meets.ensures in
    let room : l.j < length l.given = omega arith in
    elim c.if-meets.branch [
      | then-meets w ↦ giving_so l.invariant (tells.so w.if-meets.true) refl w.either.ensures (put_row l.given l.j _ room) w.given-is
      | else-meets w ↦ giving_not l.invariant (tells.not_so w.if-meets.false) w.given-is
    ]
