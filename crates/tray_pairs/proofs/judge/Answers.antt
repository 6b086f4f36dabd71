-- `tray_pairs::judge`: the first range, the second, the single call on what they hold. Assumes nothing.
use mathlib.Core.Path.{◌≡◌, ap, subst₂}
use mathlib.Core.List.{List}
use Prim.Native.Nat.{ℕ, ◌-◌, ◌*◌}
use native.Mathlib.Omega.{arith}
use lib.ListN.{take, drop}
use Rattle.shapes.specs.Shape.{block_size}
use Rattle.tray_pairs.specs.Code.{SweptAlone}
use Rattle.tray_pairs.specs.Ranges.{lent_in}
use Rattle.tray_pairs.specs.declared.Range.{Range}
use Rattle.tray_pairs.proofs.Judged.{inside_judged, first_outside, second_outside}
use Rattle.tray_pairs.proofs.judge.Goals as goal

-- the part from a range's start to its end
part : (blocks : List ℕ) (r : Range) → take (r.past * block_size - r.first * block_size) (drop (r.first * block_size) blocks) ≡ lent_in blocks r
part blocks r =
    let e : r.past * block_size - r.first * block_size ≡ (r.past - r.first) * block_size = omega arith in
    ap (λ (n : ℕ). take n (drop (r.first * block_size) blocks)) e

pub returns-then-not-inside : goal.returns-then-not-inside
returns-then-not-inside c = first_outside _ _ (c.inside.ensures.not_so c.if-not-inside.true)

pub returns-then-not-inside-2 : goal.returns-then-not-inside-2
returns-then-not-inside-2 c = second_outside _ _ (c.inside.ensures.so c.if-not-inside.false) (c.inside-2.ensures.not_so c.if-not-inside-2.true)

pub returns : goal.returns
returns c =
    let blocks = c.args.blocks.now in
    let p = c.args.p in
    let w = c.sweep_alone in
    inside_judged blocks p (c.inside.ensures.so c.if-not-inside.false) (c.inside-2.ensures.so c.if-not-inside-2.false) w.result
    (subst₂ (λ (xs ys : List ℕ). SweptAlone xs ys w.result) (part blocks p.x) (part blocks p.y) w.ensures)
