-- `equal_steps::waiting`: the end alone, or nothing. Assumes nothing.
use Rattle.sets.proofs.Exact.{none_exactly}
use Rattle.equal_steps.proofs.waiting.Goals as goal

pub returns-else-meets : goal.returns-else-meets
returns-else-meets c = none_exactly c.none.ensures (λ q h. c.meets.ensures.not_so c.if-meets.false h.0)
