-- `order_states::one_state`: the row closed backwards is the rests; what is reached, ends early, stays or parts is in
-- the row and there. Assumes nothing.
use Rattle.sets.specs.Set.{set_of}
use Rattle.order_rows.proofs.Passes.{pass_state}
use Rattle.order_states.proofs.one_state.Goals as goal

pub returns : goal.returns
returns c =
    let a = c.args in
    let closed = c.back_by-c.ensures in
    record {
      holds = λ X G U q z g v o. pass_state (set_of a.clear) (set_of a.s.same) (set_of a.s.apart) (set_of a.s.over) (set_of a.row) q z g v o
          c.down.ensures c.both-stay.ensures c.either.ensures closed.exactly closed.exactly_2
          c.both.ensures c.both-2.ensures c.both-3.ensures;
    }
