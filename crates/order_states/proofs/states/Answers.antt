-- `order_states::states`: the states before hi are gathered from the last on. Assumes nothing.
use native.Mathlib.Omega.{arith}
use mathlib.Core.Path.{◌≡◌, refl}
use Rattle.order_states.proofs.Pass.{states_none, states_more, states_all}
use Rattle.order_states.proofs.states.Goals as goal

pub loop-q-init : goal.loop-q-init
loop-q-init c = let n = c.nothing-g.ensures in (omega arith, states_none _ refl n.1 n.2 n.3)

pub loop-q-preserved : goal.loop-q-preserved
loop-q-preserved c =
    let l = c.loop-q in
    (omega arith, states_more refl (omega arith) (omega arith) l.invariant.1 c.one_state.ensures refl c.joined-g.ensures)

pub returns : goal.returns
returns c =
    let l = c.loop-q in
    states_all (let e : l.q ≡ _ = omega arith in e) c.nothing-g.ensures.0 l.invariant.1
