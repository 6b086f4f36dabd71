-- `pairs::clear`: what is filled stands before the rest. Assumes nothing.
use Rattle.pairs.proofs.Cleared.{cleared_filled}
use Rattle.pairs.proofs.clear.Goals as goal

pub returns : goal.returns
returns c = cleared_filled 63001 c.args.work.now c.fill.new.self c.requires (c.fill.ensures.after (λ y e. e))
