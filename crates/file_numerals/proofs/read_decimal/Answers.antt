-- `file_numerals::read_decimal`: the digits read so far are the decimal of v. Assumes nothing.
use mathlib.Core.Path.{sym, subst}
use Prim.Native.Nat.{ℕ, ◌+◌, ◌<◌}
use native.Mathlib.Omega.{arith}
use lib.ListN.{take}
use lib.Seq.{length-take-le}
use Rattle.std.specs.Prelude.{Some, None}
use Rattle.file_numerals.specs.Read.{DigitRead, DecimalRead}
use Rattle.file_numerals.proofs.Read.{rest_at, first_digit, next_digit, no_other, none_empty, none_long, none_padded, none_above, whole_read, below_places}
use Rattle.file_numerals.proofs.read_decimal.Goals as goal
use Rattle.file_numerals.proofs.read_decimal.Goals.{In-loop-c, then-n-eq0-via-then-n-eq0, then-n-eq0-via-else-n-eq0+then-n-gt5, else-v-eq0-via-then-v-eq0+else-n-gt1, else-v-eq0-via-else-v-eq0}

small : (c : In-loop-c) → c.loop-c.v < 10000
small c =
    let l = c.loop-c in
    below_places l.v (l.c-index + 1) (take (l.c-index + 1) c.args.part.now) l.invariant.1 (length-take-le (l.c-index + 1) c.args.part.now (omega arith)) (omega arith)

pub returns-then-n-eq0 : goal.returns-then-n-eq0
returns-then-n-eq0 c = λ m h e.
    elim c.then-n-eq0.branch [
      | then-n-eq0-via-then-n-eq0 w ↦ none_empty _ m w.if-n-eq0.true e
      | then-n-eq0-via-else-n-eq0+then-n-gt5 w ↦ none_long _ m w.if-n-gt5.true h e
    ]

pub returns-in_err-v : goal.returns-in_err-v
returns-in_err-v c = subst (DecimalRead c.args.part.now) (sym c.from_residual.ensures) (λ m h e. no_other _ 0 m (omega arith) c.in_err-v.ensures e)

pub returns-then-n-gt1 : goal.returns-then-n-gt1
returns-then-n-gt1 c = λ m h e. none_padded _ c.in_ok-v.v m c.if-n-gt1.true c.in_ok-v.ensures c.if-v-eq0.true e

pub loop-c-init : goal.loop-c-init
loop-c-init c = (
  λ h. elim c.else-v-eq0.branch [ else-v-eq0-via-then-v-eq0+else-n-gt1 w ↦ omega arith | else-v-eq0-via-else-v-eq0 w ↦ omega arith ],
  first_digit c.args.part.now c.in_ok-v.v (omega arith) c.in_ok-v.ensures,
)

pub overflow_mul-v : goal.overflow_mul-v
overflow_mul-v c = let h = small (goal.at.overflow_mul-v c).In-loop-c in omega arith

pub returns-in_err-v-2 : goal.returns-in_err-v-2
returns-in_err-v-2 c =
    let i = c.loop-c.c-index in
    let d = subst (λ (x : ℕ). DigitRead 10 x None) (rest_at c.args.part.now i (omega arith)) c.in_err-v-2.ensures in
    subst (DecimalRead c.args.part.now) (sym c.from_residual-in_err-v-2.ensures) (λ m h e. no_other _ (i + 1) m (omega arith) d e)

pub overflow_add-v : goal.overflow_add-v
overflow_add-v c = let h = small (goal.at.overflow_add-v c).In-loop-c in let d = c.in_ok-v-2.ensures.0 in omega arith

pub loop-c-preserved : goal.loop-c-preserved
loop-c-preserved c =
    let l = c.loop-c in
    let d = subst (λ (x : ℕ). DigitRead 10 x (Some c.in_ok-v-2.field-0)) (rest_at c.args.part.now l.c-index (omega arith)) c.in_ok-v-2.ensures in
    let pos = l.invariant.0 (omega arith) in
    (λ h. omega arith, next_digit c.args.part.now (l.c-index + 1) l.v c.in_ok-v-2.field-0 (omega arith) d pos l.invariant.1)

pub returns-then-v-le65535 : goal.returns-then-v-le65535
returns-then-v-le65535 c = (c.if-v-le65535.true, whole_read _ (c.loop-c.c-index + 1) _ (omega arith) c.loop-c.invariant.1)

pub returns-else-v-le65535 : goal.returns-else-v-le65535
returns-else-v-le65535 c = λ m h e. none_above _ (c.loop-c.c-index + 1) c.loop-c.v m (omega arith) c.loop-c.invariant.1 c.if-v-le65535.false h e
