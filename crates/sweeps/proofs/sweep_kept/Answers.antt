-- `sweeps::sweep_kept`: the stretches, then the pushes. Assumes nothing.
use mathlib.Core.Path.{sym}
use mathlib.Core.List.{List}
use Prim.Native.Nat.{ℕ, ◌*◌, ◌≤◌}
use native.Mathlib.Omega.{arith}
use lib.ListN.{length}
use Rattle.shapes.specs.Lent.{shape_of, RightLength}
use Rattle.shapes.specs.Shape.{block_count}
use Rattle.shapes.proofs.Lent.{shape_length}
use Rattle.sweeps.proofs.Whole.{found_none, other_block, other_offset, swept_stuck, stuck_fits, through_fits, swept_places}
use Rattle.sweeps.proofs.sweep_kept.Goals as goal
use Rattle.sweeps.proofs.sweep_kept.Goals.{then-kept-ne1-via-then-kept-ne1, then-kept-ne1-via-else-kept-ne1+then-kept-ne0}

-- what both passes go by
record Facts (x y : List ℕ) : Type 0 where
  pub some : 1 ≤ length (shape_of x)
  pub few : length (shape_of x) ≤ 32
  pub low : length (shape_of y) ≤ 32

facts : (x y : List ℕ) → RightLength x → RightLength y → Facts x y
facts x y p q =
    let n = shape_length x in
    let m = shape_length y in
    record { some = let h = p.some in omega arith; few = let h = p.few in omega arith; low = let h = q.few in omega arith }

pub returns-then-kept-ne1 : goal.returns-then-kept-ne1
returns-then-kept-ne1 c =
    let f = facts c.args.x.now c.args.y.now c.requires.0 c.requires.1 in
    let s = c.stretch_all-s in
    let both = found_none _ (2 * block_count c.args.x.now) s.new.kept _ (elim c.then-kept-ne1.branch [
      | then-kept-ne1-via-then-kept-ne1 w ↦ other_block _ _ _ _ f.some f.few f.low s.ensures.0 s.ensures.1 w.if-kept-ne1.true
      | then-kept-ne1-via-else-kept-ne1+then-kept-ne0 w ↦ other_offset _ _ _ _ f.some f.few f.low s.ensures.0 s.ensures.1 w.if-kept-ne1.false w.if-kept-ne0.true
    ]) in
    record { answer = both.0; starts = both.1 }

pub overflow_add-result : goal.overflow_add-result
overflow_add-result c =
    let f = facts c.args.x.now c.args.y.now c.requires.0 c.requires.1 in
    let s = c.stretch_all-s in
    let h = stuck_fits _ _ _ _ f.some f.few f.low s.ensures.0 s.ensures.1 c.if-kept-ne1.false c.if-kept-ne0.false _ c.push_all-p.ensures.answer _ c.in-Cannot.is in
    omega arith

pub overflow_add-result-in-Places : goal.overflow_add-result-in-Places
overflow_add-result-in-Places c =
    let f = facts c.args.x.now c.args.y.now c.requires.0 c.requires.1 in
    let s = c.stretch_all-s in
    let h = through_fits _ _ _ _ f.some f.few f.low s.ensures.0 s.ensures.1 c.if-kept-ne1.false c.if-kept-ne0.false _ c.push_all-p.ensures.answer _ c.in-Places.is in
    omega arith

pub returns-in-Cannot : goal.returns-in-Cannot
returns-in-Cannot c =
    let f = facts c.args.x.now c.args.y.now c.requires.0 c.requires.1 in
    let s = c.stretch_all-s in
    let both = found_none _ (2 * block_count c.args.x.now) c.push_all-p.new.kept _
    (swept_stuck _ _ _ _ f.some f.few f.low s.ensures.0 s.ensures.1 c.if-kept-ne1.false c.if-kept-ne0.false _ c.push_all-p.ensures.answer _ c.in-Cannot.is) in
    record { answer = both.0; starts = both.1 }

pub returns-in-Places : goal.returns-in-Places
returns-in-Places c =
    let f = facts c.args.x.now c.args.y.now c.requires.0 c.requires.1 in
    let s = c.stretch_all-s in
    let both = swept_places _ _ _ _ f.some f.few f.low s.ensures.0 s.ensures.1 c.if-kept-ne1.false c.if-kept-ne0.false _ c.push_all-p.ensures.answer _ c.in-Places.is _ _
    (sym (shape_length c.args.x.now)) c.push_all-p.ensures.starts in
    record { answer = both.0; starts = both.1 }
