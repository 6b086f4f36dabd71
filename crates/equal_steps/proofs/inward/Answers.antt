-- `equal_steps::inward`: a character leads one position on, or the end waits. Assumes nothing.
use Rattle.row_paths.proofs.Back.{inwards}
use Rattle.equal_steps.proofs.inward.Goals as goal

pub returns : goal.returns
returns g c = let R = g.R.Row in let a = c.args in inwards (R.bits a.row) (R.bits a.mine) (R.bits a.waits) _ _ _ c.down.ensures c.both.ensures c.both-2.ensures c.either.ensures
