-- `sweep_passes::stretch_all`: the places of the blocks from i on are kept, and the end reached. Assumes nothing.
use mathlib.Core.Path.{◌≡◌, sym, ap, ◌∙◌}
use Prim.Native.Nat.{ℕ, ◌+◌, ◌-◌, ◌*◌, ◌≤◌}
use native.Mathlib.Omega.{arith}
use lib.ListN.{length}
use Rattle.shapes.specs.Lent.{shape_of}
use Rattle.sweep_steps.specs.Places.{number_of, nth}
use Rattle.sweep_steps.specs.declared.Place.{Place}
use Rattle.shapes.proofs.Lent.{shape_length}
use Rattle.shapes.specs.Shape.{block_count}
use Rattle.sweep_passes.proofs.Kept.{stretches_begin, stretches_within, stretched_within, stretches_turn, stretches_end}
use Rattle.sweep_passes.proofs.stretch_all.Goals as goal
use Rattle.sweep_passes.proofs.stretch_all.Goals.{In-loop-i}

-- what the loop's turn may count on
record Room (n i looks len : ℕ) (reached : Place) : Type 0 where
  some : 1 ≤ i
  upto : i ≤ n
  few : n ≤ 32
  fit : i * 2 ≤ len
  first : 1 ≤ number_of reached
  counted : looks ≤ 64

room : (c : In-loop-i) → Room (block_count c.args.x.now) c.loop-i.i c.loop-i.looks (length c.loop-i.kept) c.loop-i.reached
room c =
    let start = c in
    let k = c.loop-i.invariant in
    let w = stretches_within _ _ _ _ _ _ _ k in
    let n = shape_length start.args.x.now in
    let m = shape_length start.args.y.now in
    let u = k.upto in let l = k.long in let p = start.requires in let t = c.loop-i-test.true in
    record { some = omega arith; upto = omega arith; few = p.0; fit = omega arith; first = w.0; counted = omega arith }

pub loop-i-init : goal.loop-i-init
loop-i-init c = let a = c.args in stretches_begin (shape_of a.x.now) _ _ _ (sym (shape_length a.x.now))

pub stretch-r-requires : goal.stretch-r-requires
stretch-r-requires c = (room (goal.at.stretch-r-requires c).In-loop-i).first

pub overflow_add-looks : goal.overflow_add-looks
overflow_add-looks c = let r = room (goal.at.overflow_add-looks c).In-loop-i in let w = stretched_within _ _ _ _ _ _ _ c.loop-i.invariant _ _ c.stretch-r.ensures in let m = shape_length c.args.y.now in let e = r.counted in let g = w.1 in let p = c.requires.1 in omega arith

pub forward-p-requires : goal.forward-p-requires
forward-p-requires c = (stretched_within _ _ _ _ _ _ _ c.loop-i.invariant _ _ c.stretch-r.ensures).0

pub loop-i-preserved : goal.loop-i-preserved
loop-i-preserved c =
    let r = room (goal.at.loop-i-preserved c).In-loop-i in
    let some = r.some in
    let same : c.loop-i.i - 1 + 1 ≡ c.loop-i.i = omega arith in
    stretches_turn _ _ _ _ _ _ _ c.loop-i.invariant some r.fit _ (c.block.ensures ∙ ap (nth (shape_of c.args.x.now)) same) _ c.stretch-r.ensures _ c.forward-p.ensures

pub returns : goal.returns
returns c = stretches_end _ _ _ _ _ _ _ c.loop-i.invariant c.loop-i-test.false
