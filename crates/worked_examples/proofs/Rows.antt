-- The whole table: by computing the definitions, and P6 and P7 from the extreme texts. Assumes nothing.
use mathlib.Core.Path.{refl}
use mathlib.Core.List.{[], ◌∷◌}
use lib.Count.{count_leading_zeros, count_trailing_zeros}
use Rattle.bases.specs.Base.{least_of, greatest_of}
use Rattle.shapes.specs.Shape.{text_of}
use Rattle.extreme_steps.specs.declared.Direction.TheVariants.{Least, Greatest}
use Rattle.extreme_steps.specs.Steps.{successor, runs}
use Rattle.texts.specs.Order.{Before}
use Rattle.texts.proofs.Order.{at_most_refl, not_before}
use Rattle.hulls.specs.Hull.{to_none, to_shapes}
use Rattle.orders.proofs.Ordered.{before_ordered, order_hull, order_none}
use Rattle.sweep_steps.specs.Share.{shares_within, shares}
use Rattle.sweep_steps.specs.Places.{before, later, forward}
use Rattle.sweep_steps.specs.Steps.{push_look, pushing, push, stretch_look, stretching, stretch, stretches, pushes, sweep_of}
use Rattle.worked_examples.specs.Rows.{Rows}
use Rattle.worked_examples.proofs.Soundness.{all_sound}
use Rattle.worked_examples.proofs.Computed.{reckoned, computed}
use Rattle.worked_examples.proofs.Orders.{extreme_a, first_side, second_side}

pub rows : Rows
unfolding all_sound reckoned text_of successor runs least_of greatest_of count_leading_zeros count_trailing_zeros shares_within shares before later forward push_look pushing push stretch_look stretching stretch stretches pushes sweep_of
rows = record {
  p1 = computed refl refl refl;
  p2 = computed refl refl refl;
  p3 = computed refl refl refl;
  p4 = computed refl refl refl;
  p5 = computed refl refl refl;
  p6 = record { narrows = to_none (order_none Before before_ordered _ _ (extreme_a Least 1 1 refl) (extreme_a Greatest 1 1 refl) (not_before (at_most_refl (97 ∷ [])))) };
  p7 = record { narrows = to_shapes (order_hull Before before_ordered _ _ (extreme_a Least 0 2 refl) (extreme_a Greatest 0 1 refl) first_side second_side) };
  p8 = refl;
  p9 = (refl, refl);
  p10 = refl;
  p11 = refl;
  p12 = refl;
  p13 = refl;
}
