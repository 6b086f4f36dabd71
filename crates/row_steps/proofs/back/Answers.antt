-- `row_steps::back`: after each step the row is closed under those from it on, and `quit` has from where these lead
-- into it. Assumes nothing.
use Rattle.std.proofs.Common.{◌≡◌, refl, arith}
use Rattle.row_steps.proofs.Steps.{reached_none, back_more, reached_all, picked_none, all_landed, added_so, added_not}
use Rattle.row_steps.proofs.back.Goals as goal

pub loop-j-init : goal.loop-j-init
loop-j-init c = (reached_none (λ i h. omega arith), picked_none (λ i h. omega arith) c.none-quit.ensures)

pub loop-j-preserved-then-meets : goal.loop-j-preserved-then-meets
loop-j-preserved-then-meets c =
    let l = c.loop-j in
    let met = c.meets.ensures.so c.if-meets.true in
    back_more c.requires (omega arith) (omega arith) l.invariant.0 l.invariant.1 (added_so met refl c.either-row.ensures) (added_so met refl c.either-quit.ensures)

pub loop-j-preserved : goal.loop-j-preserved
loop-j-preserved c =
    let l = c.loop-j in
    let apart = c.meets.ensures.not_so c.if-meets.false in
    back_more c.requires (omega arith) (omega arith) l.invariant.0 l.invariant.1 (added_not apart refl) (added_not apart refl)

pub returns : goal.returns
returns c =
    let l = c.loop-j in
    let e : l.j ≡ 0 = omega arith in
    record {
      exactly = reached_all (λ i h. (omega arith, h)) l.invariant.0;
      exactly_2 = all_landed e l.invariant.1;
    }
