-- `carries::climb_wide`: the carries of a sum. Assumes nothing.
use Rattle.sets.specs.Set.{set_of}
use Rattle.carries.proofs.Carry.{climb_exactly}
use Rattle.carries.proofs.climb_wide.Goals as goal

pub returns : goal.returns
returns c =
    let a = c.args in
    let x = c.both-x in
    let t = c.plus in
    let k = c.differing in
    let r = c.differing-2 in
    climb_exactly (set_of a.free) (set_of a.s) 256 x.ensures t.ensures k.ensures.0 r.ensures.0 r.ensures.1
