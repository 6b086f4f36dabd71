-- `find_borders::lay_sames`: one word more each turn. Assumes nothing.
use mathlib.Core.Path.{◌≡◌}
use Prim.Native.Nat.{◌-◌}
use lib.ListN.{length}
use Rattle.find_borders.specs.Borders.{Sames}
use Rattle.find_borders.proofs.lay_sames.Given as goal

abbrev pub invariant-loop-r : goal.invariant-loop-r
invariant-loop-r l = (length l.sames ≡ 64) × Sames l.mark l.r l.sames
