-- `common_texts::earliest_laid`: from their starts, if there both can end. Assumes nothing.
use Rattle.row_paths.proofs.Laid.{part_of}
use Rattle.common_weighs.proofs.Ends.{slotted_of}
use Rattle.common_texts.proofs.Starts.{start_stands, shown_text, meets_at_start, nothing_shown}
use Rattle.common_texts.proofs.earliest_laid.Goals as goal

pub returns-then-not-has : goal.returns-then-not-has
returns-then-not-has c = nothing_shown c.requires.end_rows (c.has.ensures.not_so c.if-not-has.true)

pub start-own-requires : goal.start-own-requires
start-own-requires c = part_of c.requires.laid.0

pub start-other-requires : goal.start-other-requires
start-other-requires c = part_of c.requires.laid.1

pub write-requires-clause-both_laid : goal.write-requires-clause-both_laid
write-requires-clause-both_laid c = let l = c.requires.laid in record { own = slotted_of l.0; other = slotted_of l.1; table = c.requires.end_rows }

pub write-requires-clause-stands : goal.write-requires-clause-stands
write-requires-clause-stands c = (start_stands c.start-own.ensures, start_stands c.start-other.ensures)

pub write-requires-clause-meeting : goal.write-requires-clause-meeting
write-requires-clause-meeting c = meets_at_start c.requires.end_rows c.start-own.ensures c.start-other.ensures (c.has.ensures.so c.if-not-has.false)

pub returns : goal.returns
returns c = let r = c.requires.laid in shown_text r.0.whole r.1.whole c.start-own.ensures c.start-other.ensures c.write.ensures
