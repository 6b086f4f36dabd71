-- `find_borders::numbers`: one number more each turn. Assumes nothing.
use mathlib.Core.Path.{◌≡◌, subst}
use Prim.Native.Nat.{ℕ}
use native.Mathlib.Omega.{arith}
use Rattle.find_borders.specs.Borders.{Collected}
use Rattle.find_borders.proofs.Collect.{collected_none, collected_more}
use Rattle.find_borders.proofs.numbers.Goals as goal

pub loop-q-init : goal.loop-q-init
loop-q-init g c = collected_none

pub loop-q-preserved : goal.loop-q-preserved
loop-q-preserved g c = collected_more c.loop-q.invariant c.told.ensures c.add_if-w.ensures

pub returns : goal.returns
returns g c = let end : c.loop-q.q ≡ c.args.n = omega arith in subst (λ (k : ℕ). Collected (goal.F-post g c.args.told) k c.loop-q.w) end c.loop-q.invariant
