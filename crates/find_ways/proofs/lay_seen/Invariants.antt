-- `find_ways::lay_seen`: one row more each turn. Assumes nothing.
use lib.ListN.{length}
use mathlib.Core.Path.{◌≡◌}
use Rattle.find_ways.specs.Ways.{ContinuedRows}
use Rattle.find_ways.proofs.lay_seen.Given as goal

abbrev pub invariant-loop-q : goal.invariant-loop-q
invariant-loop-q l = (length l.seen ≡ 64) × ContinuedRows l.mark l.q l.seen
