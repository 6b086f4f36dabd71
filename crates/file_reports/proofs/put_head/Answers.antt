-- `file_reports::put_head`: the word, the number and the newline. Assumes nothing.
use mathlib.Core.List.{[], ◌∷◌, ◌++◌}
use native.Mathlib.Omega.{arith}
use Rattle.file_numerals.specs.Digits.{decimal}
use Rattle.file_reports.proofs.Put.{put_of, put_then, put_as, twenty, head_text}
use Rattle.file_reports.proofs.put_head.Goals as goal

pub put_decimal-b-requires : goal.put_decimal-b-requires
put_decimal-b-requires c =
    let p = c.put_bytes-a.ensures.value in
    let k = c.put_bytes-a.auto.out in
    let room = c.requires in
    let t = twenty c.args.n (let f = c.ranges.n in omega arith) in
    omega arith

pub put_bytes-requires : goal.put_bytes-requires
put_bytes-requires c =
    let p = c.put_bytes-a.ensures.value in
    let k = c.put_bytes-a.auto.out in
    let q = c.put_decimal-b.ensures.value in
    let l = c.put_decimal-b.auto.out in
    let room = c.requires in
    let t = twenty c.args.n (let f = c.ranges.n in omega arith) in
    omega arith

pub returns : goal.returns
returns c =
    let a = c.args in
    let word = a.word.now in
    let one = c.put_bytes-a in
    let two = c.put_decimal-b in
    let three = c.put_bytes in
    let first = put_of a.out.now a.at word one.new.out one.result one.ensures.value one.ensures.out_after in
    let second = put_of one.new.out one.result (decimal a.n) two.new.out two.result two.ensures.value two.ensures.out_after in
    let third = put_of two.new.out two.result (10 ∷ []) three.new.out three.result three.ensures.value three.ensures.out_after in
    let both = put_then a.out.now a.at word one.new.out one.result (decimal a.n) two.new.out two.result first second in
    let p = one.ensures.value in
    let q = two.ensures.value in
    let r = three.ensures.value in
    let t = twenty a.n (let f = c.ranges.n in omega arith) in
    record {
      wrote = put_as _ _ _ _ _ _ (head_text word a.n) (put_then a.out.now a.at (word ++ decimal a.n) two.new.out two.result (10 ∷ []) three.new.out three.result both third);
      upper_bound = omega arith;
    }
