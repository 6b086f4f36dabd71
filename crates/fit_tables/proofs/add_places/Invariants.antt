-- `fit_tables::add_places`: one place more each turn. Assumes nothing.
use Prim.Native.Nat.{◌-◌}
use Rattle.sets.specs.Set.{set_of}
use Rattle.fit_rows.specs.Rows.{Placed, SeenTo}
use Rattle.fit_tables.proofs.add_places.Given as goal

abbrev pub invariant-loop-p : goal.invariant-loop-p
invariant-loop-p l = Placed l.text l.p l.table × SeenTo l.text l.p (set_of l.seen)
