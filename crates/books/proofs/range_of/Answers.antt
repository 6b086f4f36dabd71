-- `books::range_of`: a text ends where the next begins. Assumes nothing.
use native.Mathlib.Omega.{arith}
use Rattle.books.proofs.Sums.{text_end, text_within, text_small}
use Rattle.books.proofs.range_of.Goals as goal

pub returns : goal.returns
returns c =
    let counts = c.args.counts.now in
    let k = c.args.k in
    let from = c.blocks_before-from.ensures.sum in
    let to = c.blocks_before-to.ensures.sum in
    let end = text_end counts k c.requires.names.from_one in
    let most = text_within counts k c.requires.names.from_one in
    record { from = omega arith; to = omega arith; within = omega arith; few = text_small counts k c.requires.all c.requires.names }
