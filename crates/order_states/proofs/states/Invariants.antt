-- `order_states::states`: the states before hi are gathered from the last on. Assumes nothing.
use Prim.Native.Nat.{◌≤◌}
use lib.ListN.{length}
use Rattle.sets.specs.Set.{set_of}
use Rattle.rows.specs.Row.{zone_in, end_in}
use Rattle.order_states.specs.States.{States}
use Rattle.order_states.proofs.states.Given as goal

abbrev pub invariant-loop-q : goal.invariant-loop-q
invariant-loop-q l =
    (l.lo ≤ l.q) × States (zone_in l.shape.layout.now) (end_in l.shape.layout.now) (length l.shape.layout.now) l.rows l.s l.q l.hi (set_of l.initial.g.clear) l.g
