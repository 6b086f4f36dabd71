-- `extremes::put_run`: a part of the output is filled. Assumes nothing.
use Rattle.extreme_steps.specs.Code.{char_in}
use Rattle.extremes.proofs.Write.{put_some}
use Rattle.extremes.proofs.put_run.Goals as goal

pub returns : goal.returns
returns c =
    let a = c.args in
    put_some a.at a.k.count (char_in a.k.successor) c.char_in.result a.out.now c.fill.new.self c.requires c.char_in.ensures (c.fill.ensures.after (λ y e. e))
