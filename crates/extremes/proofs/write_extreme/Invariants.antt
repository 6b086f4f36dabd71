-- `extremes::write_extreme`: the text from block i on stands in its place, before the text's end. Assumes nothing.
use mathlib.Core.Path.{◌≡◌}
use Prim.Native.Nat.{◌-◌}
use lib.ListN.{drop}
use Rattle.shapes.specs.Lent.{shape_of}
use Rattle.extreme_steps.specs.Steps.{successor}
use Rattle.extreme_steps.specs.Code.{codes_below, text_from}
use Rattle.extremes.proofs.Write.{StandsIn}
use Rattle.extremes.proofs.write_extreme.Given as goal

abbrev pub invariant-loop-i : goal.invariant-loop-i
invariant-loop-i l =
    (l.below ≡ codes_below (successor l.d (drop l.i (shape_of l.shape)))) × StandsIn l.at l.n (text_from l.d l.shape l.i) l.initial.out l.out
