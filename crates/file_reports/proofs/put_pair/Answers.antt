-- `file_reports::put_pair`: two numbers, each after a blank, and the newline. Assumes nothing.
use mathlib.Core.List.{[], ◌∷◌, ◌++◌}
use native.Mathlib.Omega.{arith}
use Rattle.file_reports.specs.Put.{spaced, pair_end}
use Rattle.file_reports.proofs.Put.{put_of, put_then, pair_length}
use Rattle.file_reports.proofs.put_pair.Goals as goal

pub put_spaced-first-requires : goal.put_spaced-first-requires
put_spaced-first-requires c = let room = c.requires in let l = pair_length c.args.a c.args.b in omega arith

pub put_spaced-second-requires : goal.put_spaced-second-requires
put_spaced-second-requires c =
    let p = c.put_spaced-first.ensures.place in
    let k = c.put_spaced-first.auto.out in
    let room = c.requires in
    let l = pair_length c.args.a c.args.b in
    omega arith

pub put_bytes-requires : goal.put_bytes-requires
put_bytes-requires c =
    let p = c.put_spaced-first.ensures.place in
    let k = c.put_spaced-first.auto.out in
    let q = c.put_spaced-second.ensures.place in
    let m = c.put_spaced-second.auto.out in
    let room = c.requires in
    let l = pair_length c.args.a c.args.b in
    omega arith

pub returns : goal.returns
unfolding pair_end
returns c =
    let a = c.args in
    let one = c.put_spaced-first in
    let two = c.put_spaced-second in
    let three = c.put_bytes in
    let third = put_of two.new.out two.result (10 ∷ []) three.new.out three.result three.ensures.value three.ensures.out_after in
    let both = put_then a.out.now a.at (spaced a.a) one.new.out one.result (spaced a.b) two.new.out two.result one.ensures two.ensures in
    put_then a.out.now a.at (spaced a.a ++ spaced a.b) two.new.out two.result (10 ∷ []) three.new.out three.result both third
