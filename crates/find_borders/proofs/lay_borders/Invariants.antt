-- `find_borders::lay_borders`: from the borders of a start those of the next. Assumes nothing.
use mathlib.Core.Path.{◌≡◌}
use Prim.Native.Nat.{◌-◌}
use lib.ListN.{length}
use Rattle.find_borders.specs.Borders.{Borders}
use Rattle.find_borders.proofs.lay_borders.Given as goal

abbrev pub invariant-loop-q : goal.invariant-loop-q
invariant-loop-q l = (length l.borders ≡ 64) × Borders l.mark l.q l.borders
