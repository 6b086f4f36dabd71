-- `equal_back::at_end`: X waits at its end; what leads on from there, and what Y takes, is its tail of padding. Assumes
-- nothing.
use Rattle.sets.specs.Set.{set_of}
use Rattle.row_paths.proofs.Chars.{taken_last, gathered_last}
use Rattle.equal_back.proofs.at_end.Goals as goal

pub returns : goal.returns
returns c =
    let t = c.tail_of-t.ensures in
    record {
      holds = λ X own padding free f. gathered_last own padding (set_of _) (taken_last own padding (set_of _) (set_of _) f t.takes c.both-taken.ensures) (set_of _) (set_of _) (set_of _) c.is_empty.result
          free t.row t.quit f c.both.ensures c.none-2.ensures c.none.ensures c.is_empty.ensures c.with_number.ensures;
    }
