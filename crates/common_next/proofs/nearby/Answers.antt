-- `common_next::nearby`: all, where they are not asked for; else those joined. Assumes nothing.
use Rattle.sets.specs.Set.{set_of}
use lib.Seq.{length-take-le}
use Rattle.common_weighs.proofs.Ends.{slotted_part}
use Rattle.common_next.proofs.Blocks.{near_of}
use Rattle.common_next.proofs.nearby.Goals as goal

pub returns : goal.returns
returns c = let l = c.requires in near_of (slotted_part l) (length-take-le _ _ l.long) (set_of _) c.joined.ensures
