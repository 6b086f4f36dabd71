-- `sweep_blocks::stretch`: the loop keeps what the rest of the definition's loop comes to. Assumes nothing.
use mathlib.Core.Path.{◌≡◌, sym, ap, ◌∙◌}
use mathlib.Core.List.{List, reverse}
use Prim.Native.Nat.{ℕ, ◌+◌, ◌-◌, ◌≤◌}
use native.Mathlib.Omega.{arith}
use lib.ListN.{length, length-reverse}
use Rattle.shapes.specs.Lent.{shape_of}
use Rattle.sweep_steps.specs.Places.{nth}
use Rattle.shapes.proofs.Lent.{shape_length}
use Rattle.shapes.specs.Shape.{block_count}
use Rattle.sweep_blocks.proofs.Turn.{stretch_begins, stretch_past, stretch_ended, stretch_went_on, nth_reverse}
use Rattle.sweep_blocks.proofs.stretch.Goals as goal

-- the reversed shape has as many blocks, and block i of it is the one that the code reads
turned-length : (y : List ℕ) → length (reverse (shape_of y)) ≡ block_count y
turned-length y = length-reverse (shape_of y) ∙ shape_length y

turned-block : (y : List ℕ) (i : ℕ) → 1 ≤ i → i ≤ block_count y → nth (shape_of y) (block_count y + 1 - i) ≡ nth (reverse (shape_of y)) i
turned-block y i l h =
    let m = shape_length y in
    ap (λ (n : ℕ). nth (shape_of y) (n + 1 - i)) (sym m) ∙ nth_reverse (shape_of y) i l (omega arith)

pub loop-i-init : goal.loop-i-init
loop-i-init c = stretch_begins _ _ _ c.requires

pub returns-in-Ends : goal.returns-in-Ends
returns-in-Ends c = let y = c.args.y.now in stretch_ended _ _ _ _ _ _ _ c.loop-i.invariant (let m = turned-length y in omega (arith, c.loop-i-test.true)) _ (c.block.ensures ∙ turned-block y c.loop-i.i.0 c.loop-i.invariant.first c.loop-i-test.true) _ c.stretch_look-look.ensures _ c.in-Ends.is

pub loop-i-preserved : goal.loop-i-preserved
loop-i-preserved c = let y = c.args.y.now in stretch_went_on _ _ _ _ _ _ _ c.loop-i.invariant (let m = turned-length y in omega (arith, c.loop-i-test.true)) _ (c.block.ensures ∙ turned-block y c.loop-i.i.0 c.loop-i.invariant.first c.loop-i-test.true) _ c.stretch_look-look.ensures _ c.in-GoesOn.is

pub returns : goal.returns
returns c = stretch_past _ _ _ _ _ _ _ c.loop-i.invariant (let m = turned-length c.args.y.now in omega (arith, c.loop-i-test.false))
