-- `find_reads::read_shape`: one block more each turn. Assumes nothing.
use Prim.Native.Nat.{◌-◌}
use lib.ListN.{take}
use Rattle.sets.specs.Set.{set_of, Exactly}
use Rattle.shapes.specs.Lent.{shape_of}
use Rattle.find_rows.specs.Says.{LiveIn}
use Rattle.find_reads.specs.Reads.{Heard}
use Rattle.find_reads.proofs.read_shape.Given as goal

abbrev pub invariant-loop-i : goal.invariant-loop-i
invariant-loop-i l = Exactly l.search.live (LiveIn l.mark l.rows) × Heard l.mark (take l.i (shape_of l.shape)) l.rows (set_of l.search.hits)
