-- `common_next::next`: block after block, but for those that the text so far does not lead to. Assumes nothing.
use mathlib.Core.Path.{refl, sym, subst}
use Prim.Native.Nat.{◌+◌, ◌≤◌}
use native.Mathlib.Omega.{arith}
use Rattle.sets.specs.Set.{set_of}
use Rattle.common_weighs.specs.declared.Chosen.{Chosen}
use Rattle.common_weighs.specs.Code.{ChosenTo}
use Rattle.shapes.specs.Shape.{block_count}
use Rattle.common_next.proofs.Blocks.{none_found, block_none, all_found}
use Rattle.common_next.proofs.next.Goals as goal
use Rattle.common_next.proofs.next.Goals.{then-meets, else-meets}

pub loop-a-init : goal.loop-a-init
loop-a-init c = none_found c.args.both.now.x.now c.args.both.now.y.now (set_of c.args.own) (set_of c.args.other) refl refl

pub loop-a-preserved : goal.loop-a-preserved
loop-a-preserved c =
    let l = c.loop-a in
    let x = c.args.both.now.x.now in
    let y = c.args.both.now.y.now in
    let lay = c.requires.slotted.0 in
    let t = c.loop-a-test.true in
    elim c.if-meets.branch [
      | then-meets w ↦ subst (λ (g : Chosen). ChosenTo x y (l.a + 1) (set_of c.args.own) (set_of c.args.other) g) (sym w.g-is) w.weigh_block-g.ensures
      | else-meets w ↦ subst (λ (g : Chosen). ChosenTo x y (l.a + 1) (set_of c.args.own) (set_of c.args.other) g) (sym w.g-is)
          (block_none x y (set_of c.args.own) (set_of c.args.other) lay (omega arith) (c.meets.ensures.not_so w.if-meets.false) l.invariant)
    ]

pub returns : goal.returns
returns c =
    let l = c.loop-a in
    let t = c.loop-a-test.false in
    all_found c.args.both.now.x.now c.args.both.now.y.now (set_of c.args.own) (set_of c.args.other) (let le : block_count c.args.both.now.x.now ≤ l.a = omega arith in le) l.invariant
