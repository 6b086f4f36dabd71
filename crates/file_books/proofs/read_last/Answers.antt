-- `file_books::read_last`: the rules, and that nothing follows them. Assumes nothing.
use native.Mathlib.Omega.{arith}
use Rattle.file_books.proofs.Whole.{trailing, at_end}
use Rattle.file_books.proofs.read_last.Goals as goal

pub returns-then-m-bytes : goal.returns-then-m-bytes
returns-then-m-bytes c = let s = c.in_ok-n.ensures in let few = s.few in (trailing c.args.bytes.now _ _ _ _ s c.if-m-bytes.true, omega arith)

pub returns : goal.returns
returns c = at_end c.args.bytes.now _ _ _ _ c.in_ok-n.ensures c.if-m-bytes.false
