-- `file_numerals::read_word`: the digits read so far are those of v. Assumes nothing.
use mathlib.Core.Path.{◌≡◌}
use Prim.Native.Nat.{◌*◌, ◌^◌, ◌<◌}
use lib.ListN.{take}
use Rattle.file_numerals.specs.Digits.{digits}
use Rattle.file_numerals.proofs.read_word.Given as goal

abbrev pub invariant-loop-c : goal.invariant-loop-c
invariant-loop-c l = (l.v < 2 ^ (4 * l.c-index)) × (take l.c-index l.part ≡ digits 16 l.c-index l.v)
