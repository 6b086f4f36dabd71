-- `pad_rows::tail_block`: nothing of a block is added unless its end is in the row, and then all of it where it may
-- hold padding, and else its zone. Assumes nothing.
use mathlib.Core.Path.{refl}
use Rattle.pad_rows.proofs.Back.{before_apart, before_padded, before_bare}
use Rattle.pad_rows.proofs.tail_block.Goals as goal

pub returns-then-not-meets : goal.returns-then-not-meets
returns-then-not-meets c = before_apart (c.meets.ensures.not_so c.if-not-meets.true)

pub returns-then-padded : goal.returns-then-padded
returns-then-padded c =
    before_padded (c.meets.ensures.so c.if-not-meets.false) c.either-quit.ensures c.if-padded.true c.either.ensures c.either-then-padded.ensures

pub returns : goal.returns
returns c = before_bare (c.meets.ensures.so c.if-not-meets.false) c.either-quit.ensures c.if-padded.false c.either-2.ensures refl
