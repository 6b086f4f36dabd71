-- `sweep_passes::push_all`: the starts so far are kept in front, the stretched places behind. Assumes nothing.
use Rattle.shapes.specs.Lent.{shape_of}
use Rattle.sweep_passes.proofs.Kept.{PushesKept}
use Rattle.sweep_passes.proofs.push_all.Given as goal

abbrev pub invariant-loop-i : goal.invariant-loop-i
invariant-loop-i l = PushesKept (shape_of l.x) (shape_of l.y) l.initial.kept l.kept l.end l.looks l.i
