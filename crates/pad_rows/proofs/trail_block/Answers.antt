-- `pad_rows::trail_block`: from the first position of the row in the block padding leads to all that come after it, and
-- without padding a run that may end leads to its end. Assumes nothing.
use Rattle.pad_rows.proofs.Forth.{over_apart, over_taken, over_quit, over_not}
use Rattle.pad_rows.proofs.trail_block.Goals as goal

pub returns-then-is_empty : goal.returns-then-is_empty
returns-then-is_empty c = over_apart c.both-here.ensures (c.is_empty.ensures.so c.if-is_empty.true)

pub first-requires : goal.first-requires
first-requires c = c.is_empty.ensures.not_so c.if-is_empty.false

pub returns-then-padded : goal.returns-then-padded
returns-then-padded c =
    let f = c in
    over_taken f.both-here.ensures f.if-padded.true f.first.ensures.0 c.below-before.ensures
    c.either.ensures c.without.ensures c.either-then-padded.ensures

pub returns-then-meets : goal.returns-then-meets
returns-then-meets c =
    let m = c in
    over_quit m.both-here.ensures m.if-padded.false (m.meets.ensures.so c.if-meets.true) c.either-then-meets.ensures

pub returns : goal.returns
returns c =
    let m = c in
    over_not m.both-here.ensures m.if-padded.false (m.meets.ensures.not_so c.if-meets.false)
