-- `row_steps::Row::back` in one word: of every layout, and so of the one at hand. Assumes nothing.
use Rattle.row_steps.proofs.U64Row.back.Goals as goal

pub returns-clause-exactly : goal.returns-clause-exactly
returns-clause-exactly c = (c.close_back_word.ensures.holds _ _ _ c.requires.in_turn c.requires.together).0

pub returns-clause-exactly_2 : goal.returns-clause-exactly_2
returns-clause-exactly_2 c = (c.close_back_word.ensures.holds _ _ _ c.requires.in_turn c.requires.together).1
