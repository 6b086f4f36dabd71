-- `common_next::taking`: as it was, or the rows of the blocks that have the character. Assumes nothing.
use lib.Seq.{length-take-le}
use Rattle.common_weighs.proofs.Ends.{slotted_part, takes_char}
use Rattle.common_next.proofs.taking.Goals as goal

pub returns : goal.returns
returns c = let l = c.requires.slotted in takes_char (slotted_part l) (length-take-le _ _ l.long) c.single.ensures c.matching.ensures
