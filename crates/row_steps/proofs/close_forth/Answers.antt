-- `row_steps::close_forth`: the ends to which a number of the row climbs through the zones. Assumes nothing.
use Prim.Native.Nat.{ℕ, ◌<◌}
use Rattle.bases.specs.Base.{Holds}
use Rattle.sets.specs.Set.{set_of}
use Rattle.sets.proofs.Exact.{held_under}
use Rattle.sets.proofs.Four.{set_bound}
use Rattle.row_steps.proofs.Closing.{forth_closed}
use borrow.Author.Rules.{rules}
use Rattle.row_steps.proofs.close_forth.Goals as goal
use Rattle.row_steps.proofs.close_forth.Goals.{Start}

-- the words of a set are 64-bit words
small : (c : Start) (q : ℕ) → Holds (set_of c.args.runs.stops) q → q < 256
small c = held_under 256 (set_bound c.args.runs.stops (search rules))

pub returns : goal.returns
returns c =
    let m = c in
    let d = m in
    record { holds = λ Z E k t a. forth_closed t a 256 (small (goal.at.returns d).Start) d.climb.ensures m.both.ensures c.either.ensures }
