-- `file_reports::put_spaced`: the blank and the number. Assumes nothing.
use mathlib.Core.List.{[], ◌∷◌}
use native.Mathlib.Omega.{arith}
use Rattle.file_numerals.specs.Digits.{decimal}
use Rattle.file_reports.specs.Put.{spaced}
use Rattle.file_reports.proofs.Put.{put_of, put_then, spaced_length}
use Rattle.file_reports.proofs.put_spaced.Goals as goal

pub put_bytes-a-requires : goal.put_bytes-a-requires
put_bytes-a-requires c = let room = c.requires in let l = spaced_length c.args.n in omega arith

pub put_decimal-requires : goal.put_decimal-requires
put_decimal-requires c =
    let p = c.put_bytes-a.ensures.value in
    let k = c.put_bytes-a.auto.out in
    let room = c.requires in
    let l = spaced_length c.args.n in
    omega arith

pub returns : goal.returns
unfolding spaced
returns c =
    let a = c.args in
    let one = c.put_bytes-a in
    let two = c.put_decimal in
    let first = put_of a.out.now a.at (32 ∷ []) one.new.out one.result one.ensures.value one.ensures.out_after in
    let second = put_of one.new.out one.result (decimal a.n) two.new.out two.result two.ensures.value two.ensures.out_after in
    put_then a.out.now a.at (32 ∷ []) one.new.out one.result (decimal a.n) two.new.out two.result first second
