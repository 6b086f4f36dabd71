-- `order_back::gather_laid`: group before group, from past all states that are reached to the first. Assumes nothing.
use mathlib.Core.Path.{◌≡◌}
use Prim.Native.Nat.{◌+◌, ◌≤◌}
use lib.ListN.{length}
use Rattle.shapes.specs.Lent.{shape_of}
use Rattle.walks.specs.Walk.{slot_at}
use Rattle.order_guides.specs.Guide.{guide_of}
use Rattle.order_back.specs.Back.{GathersFrom}
use Rattle.order_back.proofs.gather_laid.Given as goal

abbrev pub invariant-loop-hi : goal.invariant-loop-hi
invariant-loop-hi l = record {
  in_text : l.hi ≤ length l.bound.text.now + 1;
  in_rows : l.hi ≤ l.n + 1;
  long : length l.chars ≡ length l.initial.chars;
  gathers : GathersFrom (slot_at (shape_of l.shape.lent.now)) (guide_of l.bound.direction l.bound.strict l.bound.text.now) l.shape.end l.shape.layout.now l.hi l.chars l.g;
}

abbrev pub decreases-loop-hi : goal.decreases-loop-hi
decreases-loop-hi l = l.hi
