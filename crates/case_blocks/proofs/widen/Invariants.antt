-- `case_blocks::widen`: the blocks before block i are laid with both cases. Assumes nothing.
use Prim.Native.Nat.{◌-◌}
use Rattle.case_blocks.specs.Code.{WidenedTo}
use Rattle.case_blocks.proofs.widen.Given as goal

abbrev pub invariant-loop-i : goal.invariant-loop-i
invariant-loop-i l = WidenedTo l.x l.i l.initial.wide l.wide
