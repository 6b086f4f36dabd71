-- `sweep_blocks::push`: the loop keeps what the rest of the definition's loop comes to. Assumes nothing.
use mathlib.Core.Path.{◌∙◌}
use native.Mathlib.Omega.{arith}
use Rattle.shapes.proofs.Lent.{shape_length}
use Rattle.sweep_blocks.proofs.Turn.{push_begins, push_past, push_done, push_ended, push_restarted, push_went_on}
use Rattle.sweep_blocks.proofs.push.Goals as goal

pub loop-i-init : goal.loop-i-init
loop-i-init c = push_begins _ _ _ c.requires

pub returns-then-k-eq0 : goal.returns-then-k-eq0
returns-then-k-eq0 c = let q = c in c.pushed.ensures ∙ push_done _ _ _ _ _ _ _ _ q.loop-i.invariant (let m = shape_length q.args.y.now in omega (arith, q.loop-i-test.true)) q.if-k-eq0.true

pub returns-in-Ends : goal.returns-in-Ends
returns-in-Ends c = let q = c in c.pushed-in-Ends.ensures ∙ push_ended _ _ _ _ _ _ _ _ q.loop-i.invariant (let m = shape_length q.args.y.now in omega (arith, q.loop-i-test.true)) q.if-k-eq0.false _ q.block.ensures _ q.push_look-look.ensures _ q.in-Ends.is

pub loop-i-preserved-in-Restarts : goal.loop-i-preserved-in-Restarts
loop-i-preserved-in-Restarts c = push_restarted _ _ _ _ _ _ _ _ c.loop-i.invariant (let m = shape_length c.args.y.now in omega (arith, c.loop-i-test.true)) c.if-k-eq0.false _ c.block.ensures _ c.push_look-look.ensures c.in-Restarts.is

pub loop-i-preserved : goal.loop-i-preserved
loop-i-preserved c = push_went_on _ _ _ _ _ _ _ _ c.loop-i.invariant (let m = shape_length c.args.y.now in omega (arith, c.loop-i-test.true)) c.if-k-eq0.false _ c.block.ensures _ c.push_look-look.ensures _ c.in-GoesOn.is

pub returns : goal.returns
returns c = let q = c in c.pushed-2.ensures ∙ push_past _ _ _ _ _ _ _ _ q.loop-i.invariant (let m = shape_length q.args.y.now in omega (arith, q.loop-i-test.false))
