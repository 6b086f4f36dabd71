-- `carries::fall`: in one word where that has all free numbers. Assumes nothing.
use Rattle.sets.specs.Set.{set_of}
use Rattle.carries.proofs.Doubled.{near_first}
use Rattle.carries.proofs.Short.{short_falls}
use Rattle.carries.proofs.fall.Goals as goal

pub returns-in-Some : goal.returns-in-Some
returns-in-Some c = short_falls (set_of c.args.s) c.in-Some.ensures c.down-h.ensures c.in_word.ensures c.fall_word.ensures c.word_set.ensures.0

pub returns-in-None : goal.returns-in-None
returns-in-None c = c.fall_wide.ensures.holds _ (near_first _ _ c.down-h.ensures c.both.ensures)
