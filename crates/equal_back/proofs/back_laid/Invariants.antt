-- `equal_back::back_laid`: block by block from the last, each begun with nothing used; what it has used gives the characters
-- of both sides. Assumes nothing.
use Rattle.sets.specs.Set.{set_of}
use Rattle.equal_back.specs.Back.{PassFrom}
use Rattle.equal_back.proofs.back_laid.Given as goal

abbrev pub invariant-loop-i : goal.invariant-loop-i
invariant-loop-i l = PassFrom (set_of l.pad) l.x l.y l.i l.p l.g (set_of l.moved) l.own l.others
