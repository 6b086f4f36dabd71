-- `common_texts::start`: the start, closed under the ends of runs. Assumes nothing.
use Rattle.row_paths.proofs.Laid.{laid_turn}
use Rattle.common_texts.proofs.Starts.{started}
use Rattle.common_texts.proofs.start.Goals as goal

pub returns : goal.returns
returns c =
    let l = c.requires in
    let all = c.all_runs-runs.ensures in
    started l l.long c.single.ensures (c.close_forth.ensures.holds _ _ _ (laid_turn l l.long) all) c.single-2.ensures c.matching.ensures all
