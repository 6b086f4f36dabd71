-- `file_numerals::read_decimal`: the digits read so far are the decimal of v. Assumes nothing.
use mathlib.Core.Path.{◌≡◌}
use Prim.Native.Nat.{◌+◌, ◌<◌}
use lib.ListN.{length, take}
use Rattle.file_numerals.specs.Digits.{decimal}
use Rattle.file_numerals.proofs.read_decimal.Given as goal

abbrev pub invariant-loop-c : goal.invariant-loop-c
invariant-loop-c l = (1 < length l.part → 0 < l.v) × (take (l.c-index + 1) l.part ≡ decimal l.v)
