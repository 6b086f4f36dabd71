-- `carries::bits_down`: word by word, with the bits that each hands on. Assumes nothing.
use Rattle.std.proofs.Common.{◌-◌, arith, rules}
use Rattle.carries.proofs.Shifts.{bits_down_words}
use borrow.Author.Rules.{rules}
use Rattle.carries.proofs.bits_down.Goals as goal

pub returns : goal.returns
returns c =
    let s = c in
    bits_down_words s.args.k (64 - s.args.k) (omega arith) s.args.s (search rules)
