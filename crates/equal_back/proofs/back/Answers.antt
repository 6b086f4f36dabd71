-- `equal_back::back`: the layout's structs that are the blocks'. Assumes nothing.
use Rattle.row_paths.proofs.Laid.{part_of}
use Rattle.equal_back.proofs.back.Goals as goal

pub back_laid-requires-clause-laid : goal.back_laid-requires-clause-laid
back_laid-requires-clause-laid c = part_of c.requires.laid
