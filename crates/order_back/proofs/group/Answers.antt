-- `order_back::group`: positions sort alike at all its states, so what is gathered at them and the characters that they
-- bring go together. Assumes nothing.
use mathlib.Core.Path.{refl}
use native.Mathlib.Omega.{arith}
use Rattle.row_paths.proofs.Laid.{laid_turn}
use Rattle.order_back.proofs.Groups.{group_done}
use Rattle.order_back.proofs.group.Goals as goal

pub states-g-requires-clause-in_turn : goal.states-g-requires-clause-in_turn
states-g-requires-clause-in_turn c = let l = c.requires.ready.laid in laid_turn l l.long

pub returns : goal.returns
returns c =
    let r = c.requires in
    group_done r.ready.laid (omega arith) (omega arith) c.same_at-same.ensures c.apart_at-apart.ensures (c.may_end.ensures _ refl) c.sorted-s.ensures
    r.steady r.cases r.right c.states-g.ensures c.give_some.ensures c.give_some-2.ensures
