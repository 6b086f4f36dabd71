-- `equal_steps::onward`: a character leads one position on, or the end waits. Assumes nothing.
use Rattle.std.proofs.Common.{refl}
use Rattle.row_paths.proofs.Forth.{onwards}
use Rattle.equal_steps.proofs.onward.Goals as goal

pub returns : goal.returns
returns g c = let R = g.R.Row in let a = c.args in onwards (R.bits a.row) (R.bits a.mine) (R.bits a.waits) _ _ refl c.rise.ensures c.both.ensures c.either.ensures
