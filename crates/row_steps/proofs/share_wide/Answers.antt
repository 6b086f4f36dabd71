-- `row_steps::share_wide`: of the blocks before j, the bases picked and the sets given to. Assumes nothing.
use Rattle.std.proofs.Common.{◌<◌, refl, ap, ◌∙◌, length, arith, rules}
use Rattle.sets.specs.Set.{set_of}
use Rattle.shapes.specs.Shape.{Block}
use Rattle.rows.proofs.Rows.{put_row}
use Rattle.row_steps.proofs.Steps.{next_up, picked_none, picked_more, added_so, added_not}
use Rattle.row_steps.proofs.Steps.{giving_so, giving_not}
use borrow.Author.Rules.{rules}
use Rattle.row_steps.proofs.share_wide.Goals as goal
use Rattle.row_steps.proofs.share_wide.Goals.{then-meets, else-meets}

pub loop-j-init : goal.loop-j-init
loop-j-init c = (picked_none (λ i h. omega arith) c.none-r.ensures, search rules)

pub loop-j-preserved : goal.loop-j-preserved
loop-j-preserved c =
    let l = c.loop-j in
    let tells = c.meets.ensures in
    let room : l.j < length l.given = omega arith in (
      picked_more (next_up _) (λ i h m. m) (λ i h m. m) l.invariant.0 (elim c.if-meets.branch [
        | then-meets w ↦ added_so (tells.so w.if-meets.true) (ap (λ (b : Block). b.base) w.block_at-b.ensures.result_value) (ap set_of w.r-is ∙ w.either-r.ensures)
        | else-meets w ↦ added_not (tells.not_so w.if-meets.false) (ap set_of w.r-is)
      ]),
      elim c.if-meets.branch [
        | then-meets w ↦ giving_so l.invariant.1 (tells.so w.if-meets.true) refl w.either.ensures (put_row l.given l.j _ room) w.given-is
        | else-meets w ↦ giving_not l.invariant.1 (tells.not_so w.if-meets.false) w.given-is
      ],
    )
