-- `book_rounds::run_rounds`: what the runner has before each round and before each rule of it. Assumes nothing.
use mathlib.Core.Path.{◌≡◌}
use mathlib.Core.Bool.{true, false}
use Prim.Native.Nat.{◌+◌, ◌-◌, ◌*◌, ◌<◌}
use Rattle.shapes.specs.Lent.{shape_of}
use Rattle.rules.specs.Rule.{rule_count}
use Rattle.book_runs.specs.Room.{room_of}
use Rattle.book_rounds.proofs.Round.{Before}
use Rattle.book_rounds.proofs.run_rounds.Given as goal

abbrev pub invariant-loop-j-2 : goal.invariant-loop-j-2
invariant-loop-j-2 l = Before l.counts l.rules l.fn.numbers l.numbers l.j l.changed l.made × (l.made ≡ l.initial.made + l.j) × (l.changed ≡ true → 0 < l.j)

abbrev pub invariant-loop-j : goal.invariant-loop-j
invariant-loop-j l = Before l.counts l.rules l.fn.numbers l.numbers 0 false l.made

abbrev pub decreases-loop-j : goal.decreases-loop-j
decreases-loop-j l = rule_count l.rules * room_of (shape_of l.fn.numbers) + rule_count l.rules + 1 - l.made
