-- `shape_checks::check_block` tries the three refusals of a block in turn. Assumes nothing.
use native.Mathlib.Omega.{arith}
use Rattle.answers.specs.Turns.{here, later}
use Rattle.answers.proofs.Turns.{because}
use Rattle.shapes.proofs.Wrong.{none_wrong}
use Rattle.shape_checks.proofs.check_block.Goals as goal

pub returns-then-disagree : goal.returns-then-disagree
returns-then-disagree c = later (λ h. omega arith) (later (λ h. omega arith) (here (because (c.disagree.ensures.so c.if-disagree.true))))

pub returns : goal.returns
returns c = none_wrong _ (λ h. omega arith) (λ h. omega arith) (c.disagree.ensures.not_so c.if-disagree.false)
