-- `find_borders::numbers`: one number more each turn. Assumes nothing.
use Rattle.find_borders.specs.Borders.{Collected}
use Rattle.find_borders.proofs.numbers.Given as goal

abbrev pub invariant-loop-q : goal.invariant-loop-q
invariant-loop-q g l = Collected (goal.F-post g l.told) l.q l.w
