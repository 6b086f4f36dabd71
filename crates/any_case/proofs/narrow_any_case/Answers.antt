-- `any_case::narrow_any_case`: both shapes with both cases of their letters, narrowed to the letter; what is left, cut
-- with the shapes. Assumes nothing.
use mathlib.Core.Path.{◌≡◌, sym}
use mathlib.Core.List.{List}
use Prim.Native.Nat.{ℕ}
use native.Mathlib.Omega.{arith}
use lib.ListN.{length, take}
use Rattle.shapes.specs.Lent.{shape_of}
use Rattle.case_blocks.specs.Case.{Wide}
use Rattle.any_case.proofs.Lent.{wide_shape, wide_length, wide_whole, says_none, says_some}
use borrow.Author.Rules.{rules}
use Rattle.any_case.proofs.narrow_any_case.Goals as goal
use Rattle.any_case.proofs.narrow_any_case.Goals.{After-widen-2}

-- once both shapes are laid with both cases
module _ (c : After-widen-2) where
  abbrev xs : List ℕ
  xs = c.args.x.now

  abbrev ys : List ℕ
  ys = c.args.y.now

  abbrev xw : List ℕ
  xw = take (length xs) c.widen.new.wide

  abbrev yw : List ℕ
  yw = take (length ys) c.widen-2.new.wide

  first : Wide (shape_of xs) (shape_of xw)
  first = wide_shape (search rules) c.widen.ensures

  second : Wide (shape_of ys) (shape_of yw)
  second = wide_shape (search rules) c.widen-2.ensures

  first-long : length xw ≡ length xs
  first-long = wide_length (search rules) c.widen.ensures

  second_long : length yw ≡ length ys
  second_long = wide_length (search rules) c.widen-2.ensures

pub slice_bounds-narrow_exact-end : goal.slice_bounds-narrow_exact-end
slice_bounds-narrow_exact-end c = sym (first-long (goal.at.slice_bounds-narrow_exact-end c).After-widen-2)

pub slice_bounds-narrow_exact-end-2 : goal.slice_bounds-narrow_exact-end-2
slice_bounds-narrow_exact-end-2 c = sym (second_long (goal.at.slice_bounds-narrow_exact-end-2 c).After-widen-2)

pub narrow_exact-requires : goal.narrow_exact-requires
narrow_exact-requires c =
    let k = c in
    let s = c.requires in
    let lx = first-long (goal.at.narrow_exact-requires k).After-widen-2 in
    let ly = second_long (goal.at.narrow_exact-requires k).After-widen-2 in
    let few = s.x_bound in
    let room = s.x_in_bounds in
    record {
      whole = (wide_whole (first (goal.at.narrow_exact-requires k).After-widen-2) lx s.whole.0, wide_whole (second (goal.at.narrow_exact-requires k).After-widen-2) ly s.whole.1);
      x_bound = (omega arith, omega arith);
      x_in_bounds = (omega arith, omega arith);
    }

pub returns-then-not-narrow_exact : goal.returns-then-not-narrow_exact
returns-then-not-narrow_exact c =
    let answer = c in
    let k = (goal.at.returns-then-not-narrow_exact answer).After-widen-2 in
    says_none (first k) (second k) (answer.narrow_exact.ensures.neither c.if-not-narrow_exact.true)

pub returns : goal.returns
returns c =
    let cut-y = c in
    let cut-x = cut-y in
    let some = cut-x in
    let answer = some in
    let k = (goal.at.returns answer).After-widen-2 in
    let s = c.requires in
    says_some (first k) (second k) (first-long k) (second_long k) s.whole.0.blocks s.whole.1.blocks s.x_in_bounds.0 s.x_in_bounds.1
    (answer.narrow_exact.ensures.both some.if-not-narrow_exact.false) cut-x.cut.ensures cut-y.cut-2.ensures
    (λ i. (c.type_inv.out_x i).fits) (λ i. (c.type_inv.out_y i).fits)
