-- `group_names::rename`: the names passed are the new ones, those ahead are as before. Assumes nothing.
use mathlib.Core.Path.{◌≡◌}
use Prim.Native.Nat.{ℕ, ◌≤◌, ◌<◌}
use lib.ListN.{length, get_or}
use Rattle.group_names.specs.Names.{NewName}
use Rattle.group_names.proofs.rename.Given as goal

abbrev pub invariant-loop-name : goal.invariant-loop-name
invariant-loop-name l = record {
  size : length l.names ≡ length l.initial.names;
  done : (j : ℕ) → j < l.name-index → NewName l.from l.to (get_or l.initial.names j 0) (get_or l.names j 0);
  ahead : (j : ℕ) → l.name-index ≤ j → get_or l.names j 0 ≡ get_or l.initial.names j 0;
}
