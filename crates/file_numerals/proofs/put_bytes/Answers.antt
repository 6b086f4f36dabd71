-- `file_numerals::put_bytes`: a copy is a run of stores. Assumes nothing.
use native.Mathlib.Omega.{arith}
use Rattle.file_numerals.proofs.Stores.{copied_in}
use Rattle.file_numerals.proofs.put_bytes.Goals as goal

pub returns-clause-out_after : goal.returns-clause-out_after
returns-clause-out_after c = copied_in _ _ _ _ _ c.copy_from_slice.ensures.after (omega arith) (omega arith)
