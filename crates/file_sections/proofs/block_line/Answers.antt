-- `file_sections::block_line`: a block's line, the block stored. Assumes nothing.
use native.Mathlib.Omega.{arith}
use Rattle.shapes.specs.Lent.{meant}
use Rattle.file_lines.proofs.Read.{said_small}
use Rattle.file_sections.proofs.Stored.{put_block}
use Rattle.file_sections.proofs.block_line.Goals as goal

pub put_block-requires : goal.put_block-requires
put_block-requires c = let room = c.requires in record { i_bound = omega arith; small = said_small c.args.width c.in_ok-b.ensures.0.base }

pub returns : goal.returns
returns c = record { item = meant c.in_ok-b.b; says = c.in_ok-b.ensures; stored = put_block c.put_block.ensures (λ q. (c.type_inv.out q).fits) }
