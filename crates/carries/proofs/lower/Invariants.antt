-- `carries::lower`: by whole words, then by what is left. Assumes nothing.
use Rattle.std.proofs.Common.{◌≡◌, ◌*◌, ◌/◌, ◌^◌}
use Rattle.sets.specs.Set.{set_of}
use Rattle.carries.proofs.lower.Given as goal

abbrev pub invariant-loop : goal.invariant-loop
invariant-loop l = set_of l.r ≡ set_of l.initial.r / 2 ^ (64 * l.counter)
