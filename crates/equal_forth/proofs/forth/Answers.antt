-- `equal_forth::forth`: the layout's structs that are the blocks'. Assumes nothing.
use Rattle.row_paths.proofs.Laid.{part_of}
use Rattle.equal_forth.proofs.forth.Goals as goal

pub forth_laid-requires-clause-laid : goal.forth_laid-requires-clause-laid
forth_laid-requires-clause-laid c = part_of c.requires.laid
