-- `common_rooms::earliest`: both laid out, then the pass from the ends. Assumes nothing.
use borrow.Author.Rules.{rules}
use Rattle.common_rooms.proofs.earliest.Goals as goal

pub back-requires-clause-laid : goal.back-requires-clause-laid
back-requires-clause-laid c =
    let few = c.requires.x_bound.1 in
    record { whole = c.requires.whole.1; lay = c.lay-other.ensures.lay; long = search rules }

pub earliest_laid-requires-clause-laid : goal.earliest_laid-requires-clause-laid
earliest_laid-requires-clause-laid c =
    let few = c.requires.x_bound in (
      record { whole = c.requires.whole.0; lay = c.lay-own.ensures.lay; long = search rules },
      record { whole = c.requires.whole.1; lay = c.lay-other.ensures.lay; long = search rules },
    )
