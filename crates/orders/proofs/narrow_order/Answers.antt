-- `orders::narrow_order`: x by the greatest text of y, then y by the least text of x as it was. Assumes nothing.
use Rattle.plain.proofs.All.{all_of}
use Rattle.shapes.proofs.Lent.{small_bases}
use Rattle.extreme_steps.specs.declared.Direction.TheVariants.{Least, Greatest}
use Rattle.extremes.proofs.Best.{is_extreme}
use Rattle.orders.proofs.Narrowed.{at_most_faced, before_faced, says_none, says_some}
use Rattle.orders.proofs.narrow_order.Goals as goal

pub returns-then-narrow_by : goal.returns-then-narrow_by
returns-then-narrow_by c =
    let l = is_extreme Least (small_bases _ (all_of c.args.x.now 0 (λ i h. (c.type_inv.x i).fits))) c.requires.accepted.sound in
    let g = is_extreme Greatest (small_bases _ (all_of c.args.y.now 0 (λ i h. (c.type_inv.y i).fits))) c.requires.accepted_2.sound in
    let one = c.narrow_by.ensures in
    let other = c.narrow_by-then-narrow_by.ensures in
    record {
      narrow_answer = λ z. says_some (at_most_faced z) _ _ _ _ l g c.if-narrow_by.true one other;
      narrow_answer_2 = λ z. says_some (before_faced z) _ _ _ _ l g c.if-narrow_by.true one other;
    }

pub returns-else-narrow_by : goal.returns-else-narrow_by
returns-else-narrow_by c =
    let l = is_extreme Least (small_bases _ (all_of c.args.x.now 0 (λ i h. (c.type_inv.x i).fits))) c.requires.accepted.sound in
    let g = is_extreme Greatest (small_bases _ (all_of c.args.y.now 0 (λ i h. (c.type_inv.y i).fits))) c.requires.accepted_2.sound in
    record {
      narrow_answer = λ z. says_none (at_most_faced z) _ _ _ _ l g c.if-narrow_by.false c.narrow_by.ensures;
      narrow_answer_2 = λ z. says_none (before_faced z) _ _ _ _ l g c.if-narrow_by.false c.narrow_by.ensures;
    }
