-- `equals::narrow_padded`: with the blank as padding they are equal but for it exactly if they are once trailing blanks
-- are dropped. Assumes nothing.
use Rattle.equal_rows.proofs.Equal.{but_for_blanks}
use Rattle.equals.proofs.narrow_padded.Goals as goal

pub returns : goal.returns
returns c = but_for_blanks c.single.ensures c.narrow_but.ensures
