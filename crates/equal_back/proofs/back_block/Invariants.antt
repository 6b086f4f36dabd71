-- `equal_back::back_block`: row by row, from the block's end to its start. Assumes nothing.
use Rattle.std.proofs.Common.{◌≡◌, true, length}
use Rattle.sets.specs.Set.{set_of}
use Rattle.shapes.specs.Lent.{meant}
use Rattle.rows.specs.Row.{zone_in, end_in}
use Rattle.back_rows.specs.Rows.{Whenever, RowsBack}
use Rattle.equal_back.proofs.back_block.Given as goal

abbrev pub invariant-loop-o : goal.invariant-loop-o
invariant-loop-o l = (l.in_word ≡ true → set_of l.got.row ≡ l.got.row.a)
    × Whenever (zone_in l.layout) (end_in l.layout) (length l.layout) (set_of l.mine) (set_of l.waits) l.p (meant l.b)
    (RowsBack l.rows (set_of l.g.row) l.o l.p (meant l.b) l.g l.got)
