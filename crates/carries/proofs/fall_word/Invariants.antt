-- `carries::fall_word`: as `fall_wide`, in one word. Assumes nothing.
use Rattle.std.proofs.Common.{ℕ, ◌^◌}
use Rattle.sets.specs.Set.{Exactly}
use Rattle.carries.specs.Climb.{Near, Goes}
use Rattle.carries.proofs.fall_word.Given as goal

abbrev pub invariant-loop-l : goal.invariant-loop-l
invariant-loop-l l = Exactly l.p (Goes l.initial.p (2 ^ l.l)) × ((s : ℕ) → Exactly l.initial.r (Near l.initial.p s 1) → Exactly l.r (Near l.initial.p s (2 ^ l.l)))
