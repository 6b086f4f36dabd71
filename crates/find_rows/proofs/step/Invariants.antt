-- `find_rows::step`: one row more each turn; past the end there is nothing, before the character and after it. Assumes
-- nothing.
use mathlib.Core.Path.{◌≡◌}
use Prim.Native.Nat.{◌-◌}
use lib.ListN.{length}
use Rattle.sets.specs.Set.{set_of}
use Rattle.find_rows.proofs.Turns.{Stepping}
use Rattle.find_rows.proofs.step.Given as goal

abbrev pub invariant-loop-t : goal.invariant-loop-t
invariant-loop-t l = (length l.rows ≡ 64) × Stepping l.mark.text.now (set_of l.ways.base) l.keep l.initial.rows l.t l.rows (set_of l.last) l.next
