-- `order_back::gather`: the layout's structs that are the blocks'. Assumes nothing.
use Rattle.row_paths.proofs.Laid.{part_of, together_part}
use Rattle.order_back.proofs.gather.Goals as goal

pub gather_laid-requires-clause-ready : goal.gather_laid-requires-clause-ready
gather_laid-requires-clause-ready c =
    let r = c.requires.ready in
    record {
      laid = part_of r.laid;
      all = together_part _ _ r.laid.long r.all;
      spanned = r.spanned;
      size = r.size;
      short = r.short;
      rows_long = r.rows_long;
      room = r.room;
    }
