-- `file_numerals::read_word`: the digits read so far are those of v. Assumes nothing.
use mathlib.Core.Path.{◌≡◌, refl, sym, ◌∙◌, subst}
use Prim.Native.Nat.{ℕ, ◌*◌, ◌^◌, ◌<◌}
use native.Mathlib.Omega.{arith}
use lib.ListN.{take}
use lib.Seq.{take_all}
use Rattle.file_numerals.specs.Digits.{digits}
use Rattle.file_numerals.specs.Read.{WordRead}
use Rattle.file_numerals.proofs.Read.{next_hex, no_other_hex, hex_fits}
use Rattle.file_numerals.proofs.read_word.Goals as goal

pub loop-c-init : goal.loop-c-init
unfolding digits
loop-c-init c = (omega arith, refl)

pub returns-in_err-v : goal.returns-in_err-v
returns-in_err-v c = subst (WordRead c.args.part.now) (sym c.from_residual.ensures) (λ n e. no_other_hex _ c.loop-c.c-index n (omega arith) c.in_err-v.ensures e)

pub overflow_mul-v : goal.overflow_mul-v
overflow_mul-v c = let l = c.loop-c in let f = (hex_fits l.v l.c-index 0 l.invariant.0 (omega arith) (omega arith)).1 in omega arith

pub overflow_add-v : goal.overflow_add-v
overflow_add-v c = let l = c.loop-c in let f = (hex_fits l.v l.c-index c.in_ok-v.field-0 l.invariant.0 (omega arith) c.in_ok-v.ensures.0).1 in omega arith

pub loop-c-preserved : goal.loop-c-preserved
loop-c-preserved c =
    let l = c.loop-c in
    let d = c.in_ok-v.ensures in
    ((hex_fits l.v l.c-index c.in_ok-v.field-0 l.invariant.0 (omega arith) d.0).0, next_hex c.args.part.now l.c-index l.v c.in_ok-v.field-0 (omega arith) d l.invariant.1)

pub returns : goal.returns
returns c =
    let l = c.loop-c in
    let all : l.c-index ≡ 16 = omega arith in
    let part = c.args.part.now in
    let bound : l.v < 2 ^ (4 * 16) = subst (λ (k : ℕ). l.v < 2 ^ (4 * k)) all l.invariant.0 in
    (bound, sym (take_all 16 part (let long = c.requires in omega arith)) ∙ subst (λ (k : ℕ). take k part ≡ digits 16 k l.v) all l.invariant.1)
