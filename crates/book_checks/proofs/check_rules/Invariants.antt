-- `book_checks::check_rules`: every rule passed is sound. Assumes nothing.
use Prim.Native.Nat.{ℕ, ◌<◌}
use Rattle.rules.specs.Rule.{rule_at}
use Rattle.shapes.specs.Lent.{shape_of}
use Rattle.books.specs.Refused.{SoundRule}
use Rattle.book_checks.proofs.check_rules.Given as goal

abbrev pub invariant-loop-j : goal.invariant-loop-j
invariant-loop-j l = (i : ℕ) → i < l.j → SoundRule l.counts (shape_of l.blocks) (rule_at l.rules i)
