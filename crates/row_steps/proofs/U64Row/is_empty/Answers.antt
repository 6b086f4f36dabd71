-- `row_steps::Row::is_empty` in one word: only 0 has no number. Assumes nothing.
use Rattle.carries.proofs.Short.{tells_zero}
use Rattle.row_steps.proofs.U64Row.is_empty.Goals as goal

pub returns : goal.returns
returns c = tells_zero c.args.self
