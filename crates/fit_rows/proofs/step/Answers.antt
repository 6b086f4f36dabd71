-- `fit_rows::step`: one down, and held. Assumes nothing.
use Rattle.sets.specs.Set.{set_of}
use Rattle.sets.proofs.Exact.{exactly_as, both_exactly, down_exactly}
use Rattle.fit_rows.proofs.step.Goals as goal

pub returns : goal.returns
returns c =
    let d = c.down in
    let down = down_exactly _ d.ensures in
    exactly_as (λ p h. (h.1, down.so p h.0)) (λ p h. (down.has p h.1, h.0)) (both_exactly (set_of d.result) _ c.both.ensures)
