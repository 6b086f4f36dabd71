-- `find_borders::lay_sames`: one word more each turn. Assumes nothing.
use mathlib.Core.Path.{◌≡◌, ◌∙◌, subst}
use Prim.Native.Nat.{ℕ, ◌-◌}
use native.Mathlib.Omega.{arith}
use lib.ListN.{length, get_or, length-set}
use Rattle.sets.specs.Set.{Exactly}
use Rattle.find_borders.specs.Borders.{SameAt, Sames}
use Rattle.find_borders.proofs.Collect.{words_more}
use Rattle.find_borders.proofs.lay_sames.Goals as goal

pub loop-r-init : goal.loop-r-init
loop-r-init c = (c.requires.1, λ r l. absurd (omega arith))

pub offset_bounds-sames-r : goal.offset_bounds-sames-r
offset_bounds-sames-r c = let s = c.requires.0.few in omega arith

pub bounds-sames-r : goal.bounds-sames-r
bounds-sames-r c = let s = c.requires.0.few in omega arith

pub loop-r-preserved : goal.loop-r-preserved
loop-r-preserved c =
    let l = c.loop-r in
    let mark = c.args.mark.now in
    let few = c.requires.0.few in (
      length-set l.sames l.r c.same.result ∙ l.invariant.0,
      words_more (λ r w. Exactly w (SameAt mark (get_or mark r 0))) l.sames l.r c.same.result (let n = l.invariant.0 in omega arith) l.invariant.1 c.same.ensures,
    )

pub returns : goal.returns
returns c =
    let l = c.loop-r in
    let mark = c.args.mark.now in
    let e : l.r ≡ length mark = omega arith in
    (subst (λ (k : ℕ). Sames mark k l.sames) e l.invariant.1, l.invariant.0)
