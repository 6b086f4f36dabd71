-- `find_ways::lay_falls`: one word more each turn; those behind it still tell where the mark has its character. Assumes
-- nothing.
use mathlib.Core.Path.{◌≡◌}
use Prim.Native.Nat.{ℕ, ◌≤◌, ◌<◌}
use lib.ListN.{length, get_or}
use Rattle.sets.specs.Set.{Exactly}
use Rattle.find_borders.specs.Borders.{SameAt}
use Rattle.find_ways.specs.Ways.{FallWords}
use Rattle.find_ways.proofs.lay_falls.Given as goal

abbrev pub invariant-loop-r : goal.invariant-loop-r
invariant-loop-r l =
    (length l.words ≡ 64) × FallWords l.mark l.r l.words × ((i : ℕ) → l.r ≤ i → i < length l.mark → Exactly (get_or l.words i 0) (SameAt l.mark (get_or l.mark i 0)))
