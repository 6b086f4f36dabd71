-- `sweep_blocks::stretch`: the loop keeps what the rest of the definition's loop comes to. Assumes nothing.
use mathlib.Core.List.{reverse}
use Prim.Native.Nat.{◌+◌, ◌-◌}
use Rattle.shapes.specs.Lent.{meant, shape_of}
use Rattle.sweep_steps.specs.Places.{at}
use Rattle.sweep_blocks.proofs.Turn.{StretchKept}
use Rattle.sweep_blocks.proofs.stretch.Given as goal

abbrev pub invariant-loop-i : goal.invariant-loop-i
invariant-loop-i l = StretchKept (meant l.s) (reverse (shape_of l.y)) (at l.initial.i.0 l.initial.o.0) l.k l.i.0 l.o.0 l.looks

abbrev pub decreases-loop-i : goal.decreases-loop-i
decreases-loop-i l = l.m + 1 - l.i.0
