-- `order_guides::shorter`: below T alone. Assumes nothing.
use native.Mathlib.Omega.{arith}
use Rattle.plain.proofs.Tells.{tells_true, tells_false}
use Rattle.order_guides.proofs.Text.{tells_shorter}
use Rattle.order_guides.proofs.shorter.Goals as goal

pub returns-in-Least : goal.returns-in-Least
returns-in-Least c = tells_shorter c.in-Least.is (tells_true (omega arith))

pub returns-in-Greatest : goal.returns-in-Greatest
returns-in-Greatest c = tells_shorter c.in-Greatest.is (tells_false (λ h. omega arith))
