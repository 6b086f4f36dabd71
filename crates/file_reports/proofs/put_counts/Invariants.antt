-- `file_reports::put_counts`: the counts so far are written. Assumes nothing.
use mathlib.Core.Path.{◌≡◌}
use mathlib.Core.List.{map}
use Prim.Native.Nat.{◌+◌, ◌*◌, ◌≤◌}
use lib.ListN.{length, take}
use Rattle.file_numerals.specs.Digits.{decimal}
use Rattle.file_lines.specs.Grammar.{joined}
use Rattle.file_reports.specs.Put.{Wrote, number_room}
use Rattle.file_reports.proofs.put_counts.Given as goal

abbrev pub invariant-loop-n : goal.invariant-loop-n
invariant-loop-n l =
    (length l.out ≡ length l.initial.out) × Wrote l.initial.out l.at (joined (map decimal (take l.n-index l.counts))) l.out l.end × (l.end ≤ l.at + l.n-index * number_room)
