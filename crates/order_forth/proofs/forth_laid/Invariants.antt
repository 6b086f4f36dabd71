-- `order_forth::forth_laid`: each row is the closure of the row before, one character on; past an empty row there is none.
-- Assumes nothing.
use Rattle.sets.specs.Set.{set_of}
use Rattle.order_forth.specs.Forth.{ForthTo}
use Rattle.order_forth.proofs.forth_laid.Given as goal

abbrev pub invariant-loop-q : goal.invariant-loop-q
invariant-loop-q l = ForthTo l.x l.layout l.text l.rows (set_of l.row) (set_of l.mask) l.q
