-- `equal_forth::forth_laid`: block by block, what the last block leaves enters the next. Assumes nothing.
use Rattle.sets.specs.Set.{set_of}
use Rattle.equal_forth.specs.Forth.{PassTo}
use Rattle.equal_forth.proofs.forth_laid.Given as goal

abbrev pub invariant-loop-i : goal.invariant-loop-i
invariant-loop-i l = PassTo (set_of l.pad) l.x l.y l.i l.p l.mines l.rows (set_of l.s)
