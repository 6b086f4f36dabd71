-- `find_ways::falls_at`: one state more each turn. Assumes nothing.
use mathlib.Core.List.{[], ◌∷◌, ◌++◌}
use Prim.Native.Nat.{◌+◌, ◌<◌}
use lib.ListN.{get_or, take}
use Rattle.sets.specs.Set.{Exactly}
use Rattle.find_texts.specs.Match.{Matched}
use Rattle.find_ways.proofs.falls_at.Given as goal

abbrev pub invariant-loop-q : goal.invariant-loop-q
invariant-loop-q l = (l.r < l.q) × Exactly l.w (λ e. (e < l.q) × ((l.r < e) × Matched l.mark (take e l.mark ++ (get_or l.mark l.r 0 ∷ [])) (l.r + 1)))
