-- `file_reports::put_base`: one word more each turn, behind those written. Assumes nothing.
use mathlib.Core.Path.{◌≡◌, refl, ◌∙◌}
use Prim.Native.Nat.{◌+◌, ◌-◌}
use native.Mathlib.Omega.{arith}
use Rattle.file_numerals.specs.Digits.{digits}
use Rattle.file_numerals.specs.Read.{word_digits}
use Rattle.file_numerals.proofs.Digits.{digits_length}
use Rattle.file_reports.proofs.Put.{put_of, base_none, base_more, base_all}
use Rattle.file_reports.proofs.put_base.Goals as goal

pub loop-i-init : goal.loop-i-init
loop-i-init c = (omega arith, refl, omega arith, base_none _ _ _ _)

pub loop-i-preserved : goal.loop-i-preserved
loop-i-preserved c =
    let put = c.put_digits in
    let l = c.loop-i in
    let a = c.args in
    let more = c.loop-i-test.true in
    let place = l.invariant.2 in
    let long = digits_length 16 word_digits c.word-word.result in
    let next = put_of l.out l.end (digits 16 word_digits c.word-word.result) put.new.out (l.end + word_digits) (omega arith) put.ensures in
    (omega arith, put.auto.out ∙ l.invariant.1, omega arith, base_more a.out.now a.at _ a.words l.i (omega arith) l.invariant.0 c.word-word.ensures l.invariant.3 next)

pub returns : goal.returns
returns c = let l = c.loop-i in base_all _ _ _ _ (let e : l.i ≡ 0 = omega arith in e) l.invariant.3
