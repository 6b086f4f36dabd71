-- `shapes::total_upper`: what is added so far and what is still ahead make the total. Assumes nothing.
use mathlib.Core.Path.{◌≡◌, ap}
use native.Mathlib.Nat.{zero-add}
use Prim.Native.Nat.{◌+◌, ◌-◌}
use native.Mathlib.Omega.{arith}
use lib.ListN.{drop}
use Rattle.shapes.specs.Shape.{Block, total}
use Rattle.shapes.specs.Lent.{shape_of}
use Rattle.shapes.proofs.Lent.{total_from, total_none}
use Rattle.shapes.proofs.total_upper.Goals as goal
use Rattle.shapes.proofs.total_upper.Goals.{After-block_at-sum}

-- what is added, and the sum after it
added : (c : After-block_at-sum) → c.loop-i.sum + c.block_at-sum.result.upper + total (drop (c.loop-i.i + 1) (shape_of c.args.shape.now)) ≡ total (shape_of c.args.shape.now)
added c =
    let l = c in
    let u = ap (λ (b : Block). b.upper) c.block_at-sum.ensures.result_value in
    let ahead = total_from l.args.shape.now l.loop-i.i (omega arith) in
    omega arith

pub loop-i-init : goal.loop-i-init
loop-i-init c = zero-add _

pub overflow_add-sum : goal.overflow_add-sum
overflow_add-sum c = let h = added (goal.at.overflow_add-sum c).After-block_at-sum in omega arith

pub loop-i-preserved : goal.loop-i-preserved
loop-i-preserved c = let h = added (goal.at.loop-i-preserved c).After-block_at-sum in omega arith

pub returns : goal.returns
returns c =
    let none = total_none c.args.shape.now c.loop-i.i (omega arith) in
    omega arith
