-- `common_blocks::back_block`: row by row from the block's end to its start, each kept where it belongs. Assumes
-- nothing.
use Prim.Native.Nat.{◌+◌, ◌≤◌}
use lib.ListN.{length}
use Rattle.sets.specs.Set.{set_of}
use Rattle.shapes.specs.Lent.{meant}
use Rattle.rows.specs.Row.{zone_in, end_in}
use Rattle.common_blocks.specs.Rows.{WheneverRoomy, RowsAfter}
use Rattle.common_blocks.proofs.Rows.{KeptFrom}
use Rattle.common_blocks.proofs.back_block.Given as goal

abbrev pub invariant-loop-o : goal.invariant-loop-o
invariant-loop-o l =
    (l.o ≤ l.b.upper) × RowsAfter (l.p + l.b.upper) l.initial.rows l.rows × WheneverRoomy (zone_in l.side.layout.now) (end_in l.side.layout.now) (length l.side.layout.now) (set_of l.mine) l.p (meant l.b) (KeptFrom (set_of l.s) l.rows l.o l.p (meant l.b) (set_of l.row))
