-- `find_ways::tops`: moved down by it the word is 1. Assumes nothing.
use Rattle.find_ways.proofs.Words.{tells_top}
use Rattle.find_ways.proofs.tops.Goals as goal

pub returns : goal.returns
returns c = tells_top _ _
