-- `letters::spread`: the word, its small letters 32 lower and its capitals 32 higher. Assumes nothing.
use Rattle.letters.proofs.Words.{spread_exactly}
use Rattle.letters.proofs.spread.Goals as goal

pub returns : goal.returns
returns c = spread_exactly c.args.w
