-- `file_numerals::put_digits`: the digits from place i on stand, and those before are the digits of the rest. Assumes
-- nothing.
use mathlib.Core.Path.{◌≡◌}
use Prim.Native.Nat.{◌≤◌}
use lib.ListN.{length}
use Rattle.file_numerals.proofs.Written.{Spelt}
use Rattle.file_numerals.proofs.put_digits.Given as goal

abbrev pub invariant-loop-i : goal.invariant-loop-i
invariant-loop-i l = (l.i ≤ l.k) × (length l.out ≡ length l.initial.out) × Spelt l.base l.k l.n l.i l.rest l.at l.initial.out l.out
