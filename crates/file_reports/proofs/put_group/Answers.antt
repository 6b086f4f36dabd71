-- `file_reports::put_group`: the word, the name, and how the group ends. Assumes nothing.
use mathlib.Core.Path.{refl}
use mathlib.Core.List.{◌++◌}
use Prim.Native.Nat.{◌+◌, ◌≤◌}
use native.Mathlib.Omega.{arith}
use lib.ListN.{length}
use Rattle.file_numerals.specs.Digits.{decimal}
use Rattle.file_reports.specs.Report.{group_word}
use Rattle.file_reports.specs.Put.{named, passed}
use Rattle.file_reports.proofs.Put.{put_of, put_then, put_as, twenty, group_text}
use Rattle.file_reports.proofs.put_group.Goals as goal
use Rattle.file_reports.proofs.put_group.Goals.{Start}

-- a name has at most 20 digits
twenty-of : (s : Start) → s.args.text.group ≤ s.args.k + 1 → length (decimal s.args.text.group) ≤ 20
twenty-of s e = let few = s.requires.k_lt_most_texts in twenty s.args.text.group (omega arith)

pub returns-then-text-k : goal.returns-then-text-k
returns-then-text-k c = record {
  group_put = passed c.if-text-k.true refl refl;
  upper_bound = omega arith;
}

pub put_decimal-b-requires : goal.put_decimal-b-requires
put_decimal-b-requires c =
    let s = c in
    let p = c.put_bytes-a.ensures.value in
    let k = c.put_bytes-a.auto.out in
    let room = s.requires.group_room_in_bounds in
    let name = c.if-text-k.false in
    let t = twenty-of (goal.at.put_decimal-b-requires s).Start (omega arith) in
    omega arith

pub put_ended-requires : goal.put_ended-requires
put_ended-requires c =
    let s = c in
    let p = c.put_bytes-a.ensures.value in
    let k = c.put_bytes-a.auto.out in
    let q = c.put_decimal-b.ensures.value in
    let l = c.put_decimal-b.auto.out in
    let room = s.requires.group_room_in_bounds in
    let name = c.if-text-k.false in
    let t = twenty-of (goal.at.put_ended-requires s).Start (omega arith) in
    omega arith

pub returns : goal.returns
returns c =
    let s = c in
    let a = s.args in
    let one = c.put_bytes-a in
    let two = c.put_decimal-b in
    let three = c.put_ended in
    let first = put_of a.out.now a.at group_word one.new.out one.result one.ensures.value one.ensures.out_after in
    let second = put_of one.new.out one.result (decimal a.text.group) two.new.out two.result two.ensures.value two.ensures.out_after in
    let both = put_then a.out.now a.at group_word one.new.out one.result (decimal a.text.group) two.new.out two.result first second in
    let p = one.ensures.value in
    let q = two.ensures.value in
    let r = three.ensures.upper_bound in
    let name = c.if-text-k.false in
    let t = twenty-of (goal.at.returns s).Start (omega arith) in
    record {
      group_put = named name
          (put_as _ _ _ _ _ _ (group_text a.text) (put_then a.out.now a.at (group_word ++ decimal a.text.group) two.new.out two.result _ three.new.out three.result both three.ensures.wrote));
      upper_bound = omega arith;
    }
