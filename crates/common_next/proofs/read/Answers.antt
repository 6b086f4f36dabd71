-- `common_next::read`: the positions that take the character, one up, closed under the ends of runs. Assumes nothing.
use Rattle.sets.specs.Set.{set_of}
use Rattle.common_weighs.proofs.Ends.{row_after_lem}
use Rattle.common_next.proofs.read.Goals as goal

pub returns-clause-exactly_3 : goal.returns-clause-exactly_3
returns-clause-exactly_3 c =
    let x = c.args.shape.now in
    row_after_lem x (set_of _) (set_of _) _ c.requires.slotted.laid.whole.short c.taking-takes.ensures c.both.ensures c.up-taken.ensures (c.onward.ensures x c.requires.code_bound.1)
