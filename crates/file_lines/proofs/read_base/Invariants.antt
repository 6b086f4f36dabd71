-- `file_lines::read_base`: one word more each turn, below those read. Assumes nothing.
use mathlib.Core.Path.{◌≡◌}
use Prim.Native.Nat.{◌*◌, ◌^◌, ◌<◌}
use lib.ListN.{take}
use Rattle.sets.specs.Set.{set_of}
use Rattle.file_numerals.specs.Digits.{digits}
use Rattle.file_numerals.specs.Read.{word_digits}
use Rattle.file_lines.proofs.read_base.Given as goal

abbrev pub invariant-loop-i : goal.invariant-loop-i
invariant-loop-i l = (set_of l.base < 2 ^ (l.i * 64)) × (take (l.i * word_digits) l.part ≡ digits 16 (l.i * word_digits) (set_of l.base))
