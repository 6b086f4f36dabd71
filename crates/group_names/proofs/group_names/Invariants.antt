-- `group_names::group_names`: after j rules the names are those of the groups that they link. Assumes nothing.
use Rattle.group_names.proofs.Naming.{NamesSoFar}
use Rattle.group_names.proofs.group_names.Given as goal

abbrev pub invariant-loop-j : goal.invariant-loop-j
invariant-loop-j l = NamesSoFar l.j l.rules l.names
