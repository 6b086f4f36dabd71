-- `forth_rows::forth`: each row is the closure of what enters it; one character on, or the end of the run, enters the
-- next. Assumes nothing.
use Rattle.std.proofs.Common.{length}
use Rattle.shapes.specs.Lent.{meant}
use Rattle.rows.specs.Row.{zone_in, end_in}
use Rattle.forth_rows.specs.Rows.{RowsTo, Follows, RowsKept}
use Rattle.forth_rows.proofs.forth.Given as goal

abbrev pub invariant-loop-o : goal.invariant-loop-o
invariant-loop-o g l =
    let R = g.R.Row in
    RowsKept l.p l.initial.rows l.rows
    × Follows (zone_in l.layout) (end_in l.layout) (length l.layout) (R.bits l.mine) (R.bits l.waits) l.p (meant l.b) (R.bits l.initial.enter) (λ X Y. RowsTo X Y l.p (meant l.b) l.o l.rows (R.bits l.enter) (R.bits l.stopped))
