-- `extremes::length_of`: the counts so far are the length of the text from block i on. Assumes nothing.
use mathlib.Core.Path.{◌≡◌}
use Prim.Native.Nat.{◌-◌}
use lib.ListN.{length, drop}
use Rattle.shapes.specs.Lent.{shape_of}
use Rattle.extreme_steps.specs.Steps.{successor}
use Rattle.extreme_steps.specs.Code.{codes_below, text_from}
use Rattle.extremes.proofs.length_of.Given as goal

abbrev pub invariant-loop-i : goal.invariant-loop-i
invariant-loop-i l = (l.below ≡ codes_below (successor l.d (drop l.i (shape_of l.shape)))) × (l.sum ≡ length (text_from l.d l.shape l.i))
