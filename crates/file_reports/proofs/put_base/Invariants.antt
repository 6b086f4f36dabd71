-- `file_reports::put_base`: one word more each turn, behind those written. Assumes nothing.
use mathlib.Core.Path.{◌≡◌}
use Prim.Native.Nat.{◌+◌, ◌-◌, ◌*◌, ◌/◌, ◌^◌, ◌≤◌}
use lib.ListN.{length}
use Rattle.sets.specs.Set.{set_of}
use Rattle.file_numerals.specs.Digits.{digits}
use Rattle.file_numerals.specs.Read.{word_digits}
use Rattle.file_reports.specs.Put.{Wrote}
use Rattle.file_reports.proofs.put_base.Given as goal

abbrev pub invariant-loop-i : goal.invariant-loop-i
invariant-loop-i l =
    (l.i ≤ l.words) × (length l.out ≡ length l.initial.out) × (l.end ≡ l.at + (l.words - l.i) * word_digits)
    × Wrote l.initial.out l.at (digits 16 ((l.words - l.i) * word_digits) (set_of l.base / 2 ^ (l.i * 64))) l.out l.end
