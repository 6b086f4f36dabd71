-- `file_reports::write_refused`: the word, the number, the text and the place. Assumes nothing.
use mathlib.Core.List.{◌++◌}
use native.Mathlib.Omega.{arith}
use Rattle.file_numerals.specs.Digits.{decimal}
use Rattle.answers.specs.Told.{told}
use Rattle.file_reports.specs.Report.{refused_word}
use Rattle.file_reports.specs.Report.Verdict.{refused}
use Rattle.file_reports.specs.Put.{pair_end}
use Rattle.file_reports.proofs.Put.{put_of, put_then, put_as, twenty, pair_twenty, refused_text, reported}
use Rattle.file_reports.proofs.write_refused.Goals as goal

pub put_decimal-b-requires : goal.put_decimal-b-requires
put_decimal-b-requires c =
    let p = c.put_bytes-a.ensures.value in
    let k = c.put_bytes-a.auto.out in
    let room = c.requires in
    let t = twenty c.number.result (let f = c.number.type_inv in omega arith) in
    omega arith

pub put_pair-requires : goal.put_pair-requires
put_pair-requires c =
    let p = c.put_bytes-a.ensures.value in
    let k = c.put_bytes-a.auto.out in
    let q = c.put_decimal-b.ensures.value in
    let m = c.put_decimal-b.auto.out in
    let room = c.requires in
    let t = twenty c.number.result (let f = c.number.type_inv in omega arith) in
    let l = pair_twenty c.text.result c.place.result (let f = c.text.type_inv in omega arith) (let f = c.place.type_inv in omega arith) in
    omega arith

pub returns : goal.returns
returns c =
    let a = c.args in
    let one = c.put_bytes-a in
    let two = c.put_decimal-b in
    let three = c.put_pair in
    let n = c.number in
    let x = c.text in
    let y = c.place in
    let first = put_of a.out.now 0 refused_word one.new.out one.result one.ensures.value one.ensures.out_after in
    let second = put_of one.new.out one.result (decimal n.result) two.new.out two.result two.ensures.value two.ensures.out_after in
    let both = put_then a.out.now 0 refused_word one.new.out one.result (decimal n.result) two.new.out two.result first second in
    let all = put_then a.out.now 0 (refused_word ++ decimal n.result) two.new.out two.result (pair_end x.result y.result) three.new.out three.result both three.ensures in
    let p = one.ensures.value in
    let q = two.ensures.value in
    let r = three.ensures.place in
    let t = twenty n.result (let f = n.type_inv in omega arith) in
    let l = pair_twenty x.result y.result (let f = x.type_inv in omega arith) (let f = y.type_inv in omega arith) in
    reported (refused (told a.refusal)) _ _ _ c.requires (omega arith) (put_as _ _ _ _ _ _ (refused_text (told a.refusal) _ _ _ n.ensures x.ensures y.ensures) all)
