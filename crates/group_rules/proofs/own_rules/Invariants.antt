-- `group_rules::own_rules`: after j rules those of the group among them stand in the row. Assumes nothing.
use Rattle.group_rules.specs.Own.{Owned}
use Rattle.group_rules.proofs.own_rules.Given as goal

abbrev pub invariant-loop-j : goal.invariant-loop-j
invariant-loop-j l = Owned l.rules l.g l.j l.m l.initial.own l.own
