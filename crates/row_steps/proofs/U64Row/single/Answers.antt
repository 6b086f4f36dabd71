-- `row_steps::Row::single` in one word: 1 shifted up so far. Assumes nothing.
use Rattle.sets.proofs.Exact.{exactly_at, one_exactly, one_shl}
use Rattle.row_steps.proofs.U64Row.single.Goals as goal

pub returns : goal.returns
returns c = exactly_at c.word_set.ensures.0 (exactly_at (one_shl c.args.i c.requires) (one_exactly c.args.i))
