-- `file_reports::put_blocks`: the first i blocks are written. Assumes nothing.
use mathlib.Core.Path.{◌≡◌}
use mathlib.Core.List.{map}
use Prim.Native.Nat.{◌+◌, ◌*◌, ◌≤◌}
use lib.ListN.{length, take}
use Rattle.shapes.specs.Lent.{shape_of}
use Rattle.file_lines.specs.Grammar.{block_line, joined}
use Rattle.file_reports.specs.Put.{Wrote, block_room}
use Rattle.file_reports.proofs.put_blocks.Given as goal

abbrev pub invariant-loop-i : goal.invariant-loop-i
invariant-loop-i l =
    (length l.out ≡ length l.initial.out) × Wrote l.initial.out l.at (joined (map (block_line l.width) (take l.i (shape_of l.blocks)))) l.out l.end
    × (l.end ≤ l.at + l.i * block_room)
