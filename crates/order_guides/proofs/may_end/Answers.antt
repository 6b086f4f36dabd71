-- `order_guides::may_end`: where T has ended if not strict, else if a shorter text may. Assumes nothing.
use native.Mathlib.Omega.{arith}
use Rattle.order_guides.proofs.Guide.{ends_here, ends_past}
use Rattle.order_guides.proofs.Text.{tells_at, tells_level}
use Rattle.order_guides.proofs.may_end.Goals as goal

pub returns-then-q-bound : goal.returns-then-q-bound
returns-then-q-bound c = λ T e. tells_at (ends_here _ _ _ _ (let h = c.if-q-bound.true in omega (arith, e))) c.shorter.ensures

pub returns : goal.returns
returns c = λ T e. tells_at (ends_past _ _ _ _ (let h = c.if-q-bound.false in omega (arith, e))) (tells_level _)
