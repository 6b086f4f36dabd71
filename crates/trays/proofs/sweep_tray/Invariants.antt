-- `trays::sweep_tray`: the pairs before pair i are judged. Assumes nothing.
use Rattle.trays.specs.Tray.{Filled}
use Rattle.trays.proofs.sweep_tray.Given as goal

abbrev pub invariant-loop-i : goal.invariant-loop-i
invariant-loop-i l = Filled l.blocks l.pairs l.i l.initial.row l.row
