-- `shape_checks::check_blocks`: where no block is refused, all are sound, and the total is small. Assumes nothing.
use Rattle.std.proofs.Common.{arith}
use Rattle.shapes.proofs.Lent.{shape_length, sound_total}
use Rattle.shape_checks.proofs.check_blocks.Goals as goal

pub total_upper-requires : goal.total_upper-requires
total_upper-requires c = let t = sound_total c.in_ok-check_each.ensures in let l = shape_length c.args.shape.now in omega arith
