-- `joins::narrow_accepted`: the line of the second and the third shape is narrowed against the first, under equality,
-- and cut again. Assumes nothing.
use mathlib.Core.Path.{◌≡◌, sym, subst}
use mathlib.Core.List.{List, ◌++◌}
use Prim.Native.Nat.{ℕ, ◌+◌, ◌≤◌, ◌*◌}
use native.Mathlib.Omega.{arith}
use lib.ListN.{length, take, replicate, length-take}
use lib.Seq.{length-take-le}
use Rattle.shapes.specs.Lent.{Whole}
use Rattle.shapes.proofs.Lent.{accepted_whole}
use Rattle.walks.specs.Walk.{Same}
use Rattle.pairs.specs.Narrow.{NarrowAnswer}
use Rattle.shapes.specs.Shape.{line_blocks, block_size}
use Rattle.joins.proofs.Line.{line_whole, line_few}
use Rattle.joins.proofs.Join.{says_none, narrows, says_some}
use Rattle.joins.proofs.narrow_accepted.Goals as goal
use Rattle.joins.proofs.narrow_accepted.Goals.{After-lay_line-k, After-narrow_line}

-- once the line is laid: it has so many numbers, and there is room for them
module _ (c : After-lay_line-k) where
  line-in : (c.lay_line-k.result ≡ length c.args.y.now + length c.args.z.now) × (c.lay_line-k.result ≤ line_blocks * block_size) × (length c.lay_line-k.new.line ≡ line_blocks * block_size)
  line-in =
      let few = line_few c.requires.join_accepted in
      let long = c.lay_line-k.ensures.value in
      (omega arith, omega arith, c.lay_line-k.auto.line)

-- once it is narrowed: what is answered of the line, and how much is laid over the outputs
module _ (c : After-narrow_line) where
  abbrev Said : List ℕ → Type 0
  Said line = NarrowAnswer Same line c.args.x.now (replicate (line_blocks * block_size) 0) c.args.out_x.now
      c.narrow_line.new.new c.narrow_line.new.out_x c.narrow_line.result

  said : Said (c.args.y.now ++ c.args.z.now)
  said = subst Said c.lay_line-k.ensures.line_after c.narrow_line.ensures

  new-size : length (take c.lay_line-k.result c.narrow_line.new.new) ≡ c.lay_line-k.result
  new-size =
      let few = line-in (goal.at.After-narrow_line c).After-lay_line-k in
      let kept = c.narrow_line.auto.new in
      length-take-le c.lay_line-k.result c.narrow_line.new.new (omega arith)

pub slice_bounds-narrow_line-end : goal.slice_bounds-narrow_line-end
slice_bounds-narrow_line-end c = let few = line-in (goal.at.slice_bounds-narrow_line-end c).After-lay_line-k in simp length-take (omega arith)

pub narrow_line-requires : goal.narrow_line-requires
narrow_line-requires c =
    let laid = c in
    let few = line-in (goal.at.narrow_line-requires laid).After-lay_line-k in
    let ok = c.requires.join_accepted in
    let whole = subst Whole (sym laid.lay_line-k.ensures.line_after) (line_whole ok) in
    record {
      whole = (whole, accepted_whole ok.first);
      line_bound = (simp length-take (omega arith), ok.first.right.few);
      line_in_bounds = (simp length-take (omega arith), c.requires.x_in_bounds.0);
    }

pub returns-then-not-narrow_line : goal.returns-then-not-narrow_line
returns-then-not-narrow_line c = let k = c in says_none c.requires.join_accepted ((said (goal.at.returns-then-not-narrow_line k).After-narrow_line).neither (c.if-not-narrow_line.true))

pub slice_bounds-lay_parts-end : goal.slice_bounds-lay_parts-end
slice_bounds-lay_parts-end c = sym (new-size (goal.at.slice_bounds-lay_parts-end c).After-narrow_line)

pub lay_parts-requires : goal.lay_parts-requires
lay_parts-requires c =
    let k = c in
    let size = new-size (goal.at.lay_parts-requires k).After-narrow_line in
    let few = line-in (goal.at.lay_parts-requires k).After-lay_line-k in
    let room = c.requires.x_in_bounds in
    (omega arith, room.1, omega arith)

pub returns : goal.returns
returns c =
    let k = c in
    let line = c.lay_line-k in
    let parts = c.lay_parts.ensures in
    says_some (narrows c.requires.join_accepted ((said (goal.at.returns k).After-narrow_line).both (c.if-not-narrow_line.false)) line.result line.ensures.value parts.out_y_after parts.out_z_after)
