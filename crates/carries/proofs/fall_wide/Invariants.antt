-- `carries::fall_wide`: what falls within 2 ^ l numbers, for each row, until nothing goes on farther. Assumes nothing.
use Rattle.std.proofs.Common.{ℕ, ◌^◌}
use Rattle.sets.specs.Set.{set_of, Exactly}
use Rattle.carries.specs.Climb.{Near, Spans}
use Rattle.carries.proofs.fall_wide.Given as goal

abbrev pub invariant-loop-l : goal.invariant-loop-l
invariant-loop-l l = (z s : ℕ) → Spans z l.spans → Exactly (set_of l.initial.r) (Near z s 1) → Exactly (set_of l.r) (Near z s (2 ^ l.l))
