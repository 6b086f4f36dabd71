-- `equals::narrow_exact`: with no padding two texts are equal but for it exactly if they are equal. Assumes nothing.
use Rattle.equal_rows.proofs.Equal.{exactly}
use Rattle.equals.proofs.narrow_exact.Goals as goal

pub returns : goal.returns
returns c = exactly c.none.ensures c.narrow_but.ensures
