-- `sweep_places::forward`. Assumes nothing.
use Rattle.sweep_places.proofs.Back.{forward_past, forward_into}
use Rattle.sweep_places.proofs.forward.Goals as goal

pub returns-then-m-j : goal.returns-then-m-j
returns-then-m-j c = let a = c.args in forward_past a.y.now a.p c.if-m-j.true

pub returns : goal.returns
returns c = let a = c.args in forward_into a.y.now a.p c.if-m-j.false c.block-t.result c.block-t.ensures _ c.saturating_sub.ensures
