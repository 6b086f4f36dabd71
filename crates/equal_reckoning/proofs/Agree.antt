-- What the code leaves is what the function computes. Assumes nothing.
use mathlib.Core.Path.{◌≡◌}
use mathlib.Core.List.{List, ◌++◌}
use Prim.Native.Nat.{ℕ}
use Rattle.shapes.specs.Lent.{Whole, shape_of}
use Rattle.hulls.specs.Hull.{none, shapes, to_none, to_shapes}
use Rattle.hulls.proofs.Hull.{one_outcome}
use Rattle.walks.specs.Walk.{Same}
use Rattle.pairs.specs.Narrow.{Narrows, NoPair}
use Rattle.equal_reckoning.specs.Equal.{equal_hull}
use Rattle.equal_reckoning.proofs.Exact.{equal_exact}

module _ {xs ys ox oy ox' oy' : List ℕ} (x : Whole xs) (y : Whole ys) where
  pub both_computed : (b : Narrows Same xs ys ox oy ox' oy') → equal_hull (shape_of xs) (shape_of ys) ≡ shapes (b.first ++ b.second)
  both_computed b = one_outcome (equal_exact (shape_of xs) (shape_of ys) x.sound y.sound) (to_shapes b.hull)

  pub neither_computed : NoPair Same xs ys ox oy ox' oy' → equal_hull (shape_of xs) (shape_of ys) ≡ none
  neither_computed n = one_outcome (equal_exact (shape_of xs) (shape_of ys) x.sound y.sound) (to_none n.none)
