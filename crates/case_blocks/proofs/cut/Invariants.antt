-- `case_blocks::cut`: the blocks before block i are cut, the others as they were. Assumes nothing.
use Prim.Native.Nat.{◌-◌}
use Rattle.case_blocks.specs.Code.{CutTo}
use Rattle.case_blocks.proofs.cut.Given as goal

abbrev pub invariant-loop-i : goal.invariant-loop-i
invariant-loop-i l = CutTo l.x l.i l.initial.out l.out
