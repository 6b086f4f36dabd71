-- `sweep_blocks::push`: the loop keeps what the rest of the definition's loop comes to. Assumes nothing.
use Prim.Native.Nat.{◌+◌, ◌-◌}
use Rattle.shapes.specs.Lent.{meant, shape_of}
use Rattle.sweep_blocks.proofs.Turn.{PushKept}
use Rattle.sweep_blocks.proofs.push.Given as goal

abbrev pub invariant-loop-i : goal.invariant-loop-i
invariant-loop-i l = PushKept (meant l.s) (shape_of l.y) l.initial.start l.k l.start l.i.0 l.o.0 l.looks

abbrev pub decreases-loop-i : goal.decreases-loop-i
decreases-loop-i l = l.m + 1 - l.i.0
