-- `equal_forth::forth_block`: sets of one word are those words. Assumes nothing.
use Rattle.forth_rows.proofs.Rows.{together_as, follows_as}
use borrow.Author.Rules.{rules}
use Rattle.equal_forth.proofs.forth_block.Goals as goal

pub forth-r-requires : goal.forth-r-requires
forth-r-requires c =
    let w = c.in_words.ensures c.if-in_words.true in
    let s = c.requires in
    record {
      in_turn = s.in_turn;
      together = together_as w.free_is w.stops_is s.together;
      upper_bound = s.upper_bound;
      can_rise = search rules;
    }

pub returns-then-mine-lt9223372036854775808 : goal.returns-then-mine-lt9223372036854775808
returns-then-mine-lt9223372036854775808 c =
    let w = c.in_words.ensures c.if-in_words.true in
    record {
      follows = follows_as w.mine_is w.waits_is w.row_is c.word_set.ensures.0 c.forth-r.ensures.follows;
      rows_kept = c.forth-r.ensures.rows_kept;
    }
