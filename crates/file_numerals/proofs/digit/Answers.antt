-- `file_numerals::digit`: by the range of the code. Assumes nothing.
use native.Mathlib.Omega.{arith}
use Rattle.file_numerals.proofs.Read.{no_digit, low_digit, high_digit, above_base}
use Rattle.file_numerals.proofs.digit.Goals as goal
use Rattle.file_numerals.proofs.digit.Goals.{in-48-to-57, in-97-to-102}

pub returns-in_default : goal.returns-in_default
returns-in_default c = no_digit c.args.base c.args.c c.requires (λ h. omega arith) (λ h. omega arith)

pub returns-in_default-2 : goal.returns-in_default-2
returns-in_default-2 c = no_digit c.args.base c.args.c c.requires (λ h. omega arith) (λ h. omega arith)

pub returns-in_default-3 : goal.returns-in_default-3
returns-in_default-3 c = no_digit c.args.base c.args.c c.requires (λ h. omega arith) (λ h. omega arith)

pub returns-then-d-base : goal.returns-then-d-base
returns-then-d-base c = (
  c.if-d-base.true,
  elim c.if-c-lt58.branch [
    | in-48-to-57 w ↦ rw w.d-is (low_digit c.args.c (omega arith) (omega arith))
    | in-97-to-102 w ↦ rw w.d-is (high_digit c.args.c (omega arith) (omega arith))
  ],
)

pub returns-else-d-base : goal.returns-else-d-base
returns-else-d-base c =
    elim c.if-c-lt58.branch [
      | in-48-to-57 w ↦ above_base c.args.base c.args.c _ c.requires (omega arith) (omega arith) (low_digit c.args.c (omega arith) (omega arith))
      | in-97-to-102 w ↦ above_base c.args.base c.args.c _ c.requires (omega arith) (omega arith) (high_digit c.args.c (omega arith) (omega arith))
    ]
