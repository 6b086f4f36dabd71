-- `row_steps::give_word`: the sets before j have what is given; from j on they are as they were. Assumes nothing.
use Rattle.std.proofs.Common.{◌<◌, refl, length, arith}
use Rattle.rows.proofs.Rows.{put_row}
use Rattle.row_steps.proofs.Steps.{giving_with, tells_met_word}
use Rattle.row_steps.proofs.give_word.Goals as goal

pub loop-j-preserved : goal.loop-j-preserved
loop-j-preserved c =
    let l = c.loop-j in
    let on = c.meets_word in
    let room : l.j < length l.given = omega arith in
    giving_with on.result l.invariant (tells_met_word refl on.ensures) refl c.with.ensures.result_value c.with.ensures.result_value_2 (put_row l.given l.j _ room)
