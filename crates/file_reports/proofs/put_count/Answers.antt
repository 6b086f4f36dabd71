-- `file_reports::put_count`: the number and the newline. Assumes nothing.
use mathlib.Core.List.{[], ◌∷◌}
use native.Mathlib.Omega.{arith}
use Rattle.file_numerals.specs.Digits.{decimal}
use Rattle.file_reports.proofs.Put.{put_of, put_then, put_as, twenty, count_text}
use Rattle.file_reports.proofs.put_count.Goals as goal

pub put_decimal-a-requires : goal.put_decimal-a-requires
put_decimal-a-requires c = let t = twenty c.args.n (let f = c.ranges.n in omega arith) in let room = c.requires in omega arith

pub put_bytes-requires : goal.put_bytes-requires
put_bytes-requires c =
    let q = c.put_decimal-a.ensures.value in
    let l = c.put_decimal-a.auto.out in
    let room = c.requires in
    let t = twenty c.args.n (let f = c.ranges.n in omega arith) in
    omega arith

pub returns : goal.returns
returns c =
    let a = c.args in
    let two = c.put_decimal-a in
    let three = c.put_bytes in
    let second = put_of a.out.now a.at (decimal a.n) two.new.out two.result two.ensures.value two.ensures.out_after in
    let third = put_of two.new.out two.result (10 ∷ []) three.new.out three.result three.ensures.value three.ensures.out_after in
    let q = two.ensures.value in
    let r = three.ensures.value in
    let t = twenty a.n (let f = c.ranges.n in omega arith) in
    record {
      wrote = put_as _ _ _ _ _ _ (count_text a.n) (put_then a.out.now a.at (decimal a.n) two.new.out two.result (10 ∷ []) three.new.out three.result second third);
      upper_bound = omega arith;
    }
