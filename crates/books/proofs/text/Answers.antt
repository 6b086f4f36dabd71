-- `books::text`: the numbers in a text's range are its blocks. Assumes nothing.
use Prim.Native.Nat.{◌-◌}
use native.Mathlib.Omega.{arith}
use lib.ListN.{length-take, drop}
use Rattle.books.proofs.Part.{range_part, range_shape}
use Rattle.books.proofs.text.Goals as goal

pub returns : goal.returns
returns c =
    let xs = c.args.numbers.now in
    let r = c.range_of-range.result in
    let e = c.range_of-range.ensures in
    let few = e.few in
    let to = e.to in
    let size = length-take (r.to - r.from) (drop r.from xs) in
    record {
      numbers = range_part _ xs _ r e;
      shape = range_shape _ xs _ r e;
      few = omega arith;
    }
