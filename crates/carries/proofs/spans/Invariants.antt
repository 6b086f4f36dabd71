-- `carries::spans`: from where twice as many numbers go on each turn, until that is nowhere or as many as there are.
-- Assumes nothing.
use Rattle.std.proofs.Common.{ℕ, ◌^◌, ◌<◌}
use Rattle.sets.specs.Set.{set_of, Exactly}
use Rattle.rows.specs.Row.{row_in}
use Rattle.carries.specs.Climb.{Goes}
use Rattle.carries.proofs.spans.Given as goal

abbrev pub invariant-loop-l : goal.invariant-loop-l
invariant-loop-l l = Exactly (set_of l.p) (Goes (set_of l.initial.p) (2 ^ l.l)) × ((i : ℕ) → i < l.l → Exactly (row_in l.rows i) (Goes (set_of l.initial.p) (2 ^ i)))
