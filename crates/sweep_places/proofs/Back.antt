-- A place of the reversed shape turned back, by the tests that the code makes. Assumes nothing.
use mathlib.Core.Path.{◌≡◌, sym, ap, ◌∙◌}
use mathlib.Core.List.{List}
use Prim.Native.Nat.{ℕ, ◌+◌, ◌-◌, ◌≤◌, ◌<◌}
use native.Mathlib.Omega.{arith}
use lib.ListN.{length}
use borrow.Author.Tests.{lt-ltb, le-ltb}
use Rattle.shapes.specs.Shape.{Block, block_count}
use Rattle.shapes.specs.Lent.{meant, shape_of}
use Rattle.sweep_steps.specs.Places.{at, number_of, offset_of, nth, forward}
use Rattle.sweep_steps.specs.declared.Place.{Place}
use Rattle.shapes.specs.declared.Block.{Block as Carried}
use Rattle.shapes.proofs.Lent.{shape_length}

pub forward_past : (y : List ℕ) (p : Place) → block_count y < number_of p → at 1 0 ≡ forward (shape_of y) p
unfolding forward
forward_past y p h = let m = shape_length y in simp (lt-ltb (length (shape_of y)) (number_of p) (omega arith))

pub forward_into : (y : List ℕ) (p : Place) → number_of p ≤ block_count y → (t : Carried) → meant t ≡ nth (shape_of y) (block_count y + 1 - number_of p)
    → (o : ℕ) → o ≡ t.lower - offset_of p → at (block_count y + 1 - number_of p) o ≡ forward (shape_of y) p
unfolding forward
forward_into y p h t e o f =
    let m = shape_length y in
    let low : t.lower ≡ (nth (shape_of y) (block_count y + 1 - number_of p)).lower = ap (λ (b : Block). b.lower) e in
    let g : at (block_count y + 1 - number_of p) o ≡ at (length (shape_of y) + 1 - number_of p) ((nth (shape_of y) (length (shape_of y) + 1 - number_of p)).lower - offset_of p)
    = ap (at (block_count y + 1 - number_of p)) (f ∙ ap (λ (n : ℕ). n - offset_of p) low)
    ∙ ap (λ (n : ℕ). at (n + 1 - number_of p) ((nth (shape_of y) (n + 1 - number_of p)).lower - offset_of p)) (sym m) in
    simp (le-ltb (length (shape_of y)) (number_of p) (omega arith)) g
