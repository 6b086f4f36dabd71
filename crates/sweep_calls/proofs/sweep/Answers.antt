-- `sweep_calls::sweep`: the shapes, the room, the steps. Assumes nothing.
use mathlib.Core.Path.{refl}
use native.Mathlib.Omega.{arith}
use Rattle.answers.specs.Turns.{here, later}
use Rattle.answers.proofs.Turns.{lacks}
use Rattle.shapes.proofs.Lent.{shape_length}
use Rattle.sweep_calls.proofs.Sweeping.{promised}
use Rattle.sweep_calls.proofs.sweep.Goals as goal

pub returns-then-out-x : goal.returns-then-out-x
returns-then-out-x c =
    (later c.in_ok-check_pair.ensures (here (lacks (λ r. let l = shape_length c.args.x.now in let h = c.if-out-x.true in omega arith))), refl)

pub returns : goal.returns
returns c =
    let a = c.args in
    let w = c.sweep_shapes in
    promised a.x.now a.y.now a.out.now w.new.out w.result c.in_ok-check_pair.ensures
    (let l = shape_length a.x.now in let h = c.if-out-x.false in omega arith) w.ensures.answer w.ensures.output
