-- `equal_rows::narrow_rows`: the last row of the first pass tells whether there is a pair; each block of both sides is
-- then what the two passes tell of it. Assumes nothing.
use native.Mathlib.Omega.{arith}
use Rattle.row_paths.specs.Laid.{Laid}
use Rattle.pads.proofs.Paths.{turn_pad}
use Rattle.equal_rows.proofs.Equal.{joined_of, lengths, both_of, says_none, says_some}
use Rattle.equal_rows.proofs.narrow_rows.Goals as goal
use Rattle.equal_rows.proofs.narrow_rows.Goals.{After-lay-m}

-- y is laid out in the room lent for it
laid_room : (c : After-lay-m) → Laid c.args.y.now c.lay-m.new.layout
laid_room c = record { whole = c.requires.whole.1; lay = c.lay-m.ensures.lay; long = let room = c.requires.roomed.1 in omega arith }

pub forth-last-requires-clause-laid : goal.forth-last-requires-clause-laid
forth-last-requires-clause-laid c = laid_room (goal.at.forth-last-requires-clause-laid c).After-lay-m

pub returns-then-not-has : goal.returns-then-not-has
returns-then-not-has c =
    let s = c.requires in
    says_none s.whole.0 s.whole.1 c.forth-last.ensures.pass c.lay-m.ensures.value (c.has.ensures.not_so c.if-not-has.true)

pub back-told-requires-clause-laid : goal.back-told-requires-clause-laid
back-told-requires-clause-laid c = laid_room (goal.at.back-told-requires-clause-laid c).After-lay-m

pub narrow_blocks-requires-clause-some_length : goal.narrow_blocks-requires-clause-some_length
narrow_blocks-requires-clause-some_length c =
    let joined = joined_of c.forth-last.ensures.pass c.lay-m.ensures.value (c.has.ensures.so c.if-not-has.false) in
    lengths c.requires.whole.0 c.requires.whole.1 joined c.back-told.ensures.side_told

pub narrow_blocks-requires-2-clause-some_length : goal.narrow_blocks-requires-2-clause-some_length
narrow_blocks-requires-2-clause-some_length c =
    let joined = joined_of c.forth-last.ensures.pass c.lay-m.ensures.value (c.has.ensures.so c.if-not-has.false) in
    lengths c.requires.whole.1 c.requires.whole.0 (turn_pad joined) c.back-told.ensures.side_told_2

pub returns : goal.returns
returns c =
    let s = c.requires in
    let t = c.back-told.ensures in
    let joined = joined_of c.forth-last.ensures.pass c.lay-m.ensures.value (c.has.ensures.so c.if-not-has.false) in
    says_some (both_of s.whole.0 s.whole.1 joined s.x_in_bounds.0 s.x_in_bounds.1 t.side_told t.side_told_2 c.narrow_blocks.ensures c.narrow_blocks-2.ensures
    (λ k. (c.type_inv.out_x k).fits) (λ k. (c.type_inv.out_y k).fits))
