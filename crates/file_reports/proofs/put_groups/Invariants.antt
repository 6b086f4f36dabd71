-- `file_reports::put_groups`: the lines of the groups that the first k texts name. Assumes nothing.
use mathlib.Core.Path.{◌≡◌}
use Prim.Native.Nat.{◌+◌, ◌*◌, ◌≤◌}
use lib.ListN.{length, take}
use Rattle.file_reports.specs.Put.{GroupsPut, group_room}
use Rattle.file_reports.proofs.put_groups.Given as goal

abbrev pub invariant-loop-k : goal.invariant-loop-k
invariant-loop-k l = (length l.out ≡ length l.initial.out) × GroupsPut (take l.k l.texts) l.initial.out l.at l.out l.end × (l.end ≤ l.at + l.k * group_room)
