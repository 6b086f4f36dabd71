-- `sweep_passes::push_all`: the starts so far are kept in front, the stretched places behind. Assumes nothing.
use mathlib.Core.Path.{◌≡◌, ap}
use Prim.Native.Nat.{ℕ, ◌+◌, ◌*◌, ◌≤◌, ◌<◌}
use native.Mathlib.Omega.{arith}
use lib.ListN.{length}
use Rattle.shapes.specs.Lent.{shape_of}
use Rattle.sweep_steps.specs.Places.{number_of, later}
use Rattle.sweep_steps.specs.declared.Place.{Place}
use Rattle.sweep_steps.proofs.Looks.{later_block}
use Rattle.shapes.specs.Shape.{block_count}
use Rattle.sweep_passes.specs.Read.{swept_of}
use Rattle.shapes.proofs.Lent.{shape_length}
use Rattle.sweep_passes.proofs.Kept.{pushed_within, pushes_begin, pushes_stuck, pushes_turn, pushes_end, never, written}
use Rattle.sweep_passes.proofs.push_all.Goals as goal
use Rattle.sweep_passes.proofs.push_all.Goals.{In-loop-i}

-- what the loop's turn may count on
record Room (n m i looks len : ℕ) (end : Place) : Type 0 where
  some : i < n
  few : n ≤ 32
  low : m ≤ 32
  fit : i * 2 + 2 ≤ len
  first : 1 ≤ number_of end
  counted : looks ≤ 64 * i

room : (c : In-loop-i)
    → Room (length (shape_of c.args.x.now)) (length (shape_of c.args.y.now)) c.loop-i.i c.loop-i.looks (length c.loop-i.kept) c.loop-i.end
room c =
    let start = c in
    let k = c.loop-i.invariant in
    let n = shape_length start.args.x.now in
    let m = shape_length start.args.y.now in
    let l = k.long in let p = start.requires in let t = c.loop-i-test.true in let f = k.counted in
    record { some = omega arith; few = omega arith; low = omega arith; fit = omega arith; first = k.first; counted = f }

-- the place that push starts from
ahead : (p q r : Place) → r ≡ later p q → 1 ≤ number_of q → 1 ≤ number_of r
ahead p q r e h = let l = later_block p q in let f = ap number_of e in omega arith

pub loop-i-init : goal.loop-i-init
loop-i-init c = pushes_begin _ _ _

pub push-r-requires : goal.push-r-requires
push-r-requires c = let r = room (goal.at.push-r-requires c).In-loop-i in ahead _ _ _ c.later.ensures r.first

pub overflow_add-looks : goal.overflow_add-looks
overflow_add-looks c = let r = room (goal.at.overflow_add-looks c).In-loop-i in let w = pushed_within _ _ _ _ c.push-r.ensures (ahead _ _ _ c.later.ensures r.first) in let g = r.counted in let s = r.some in let f = r.few in let l = r.low in let u = w.1 in omega arith

pub returns-then-r-ne0 : goal.returns-then-r-ne0
returns-then-r-ne0 c = let r = room (goal.at.returns-then-r-ne0 c).In-loop-i in let e = pushes_stuck _ _ _ _ _ _ _ c.loop-i.invariant r.some r.fit _ c.block.ensures _ c.later.ensures _ c.push-r.ensures c.if-r-ne0.true in
    record {
      answer = ap swept_of e;
      starts = λ qs l g. absurd (never _ _ _ _ g e);
    }

pub loop-i-preserved : goal.loop-i-preserved
loop-i-preserved c = let r = room (goal.at.loop-i-preserved c).In-loop-i in pushes_turn _ _ _ _ _ _ _ c.loop-i.invariant r.some r.fit _ c.block.ensures _ c.later.ensures _ c.push-r.ensures c.if-r-ne0.false r.low (ahead _ _ _ c.later.ensures r.first)

pub returns : goal.returns
returns c = let a = c.args in let k = c.loop-i.invariant in let n = shape_length a.x.now in let t = c.loop-i-test.false in let u = k.upto in let e = pushes_end _ _ _ _ _ _ _ k (omega arith) in
    record {
      answer = ap swept_of e.0;
      starts = λ qs l g. written _ _ _ _ _ c.loop-i.i _ a.kept.now (2 * (block_count a.x.now)) (omega arith) e.0 g e.1;
    }
