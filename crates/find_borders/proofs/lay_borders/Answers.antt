-- `find_borders::lay_borders`: from the borders of a start those of the next. Assumes nothing.
use mathlib.Core.Path.{◌≡◌, ◌∙◌, subst}
use Prim.Native.Nat.{ℕ, ◌+◌, ◌-◌}
use native.Mathlib.Omega.{arith}
use lib.ListN.{length, length-set}
use Rattle.sets.specs.Set.{Exactly}
use Rattle.find_borders.specs.Borders.{Border, Borders}
use Rattle.find_borders.proofs.Collect.{words_more}
use Rattle.find_borders.proofs.Borders.{first_borders, next_borders}
use Rattle.find_borders.proofs.lay_borders.Goals as goal

pub loop-q-init : goal.loop-q-init
loop-q-init c =
    let a = c.args in
    let long = c.requires.short_mark.1 in
    (length-set a.borders.now 0 1 ∙ long, words_more (λ q w. Exactly w (Border a.mark.now q)) a.borders.now 0 1 (omega arith) (λ i l. absurd (omega arith)) (first_borders a.mark.now))

pub offset_bounds-borders-q : goal.offset_bounds-borders-q
offset_bounds-borders-q c = let s = c.requires.short_mark.0.few in omega arith

pub bounds-borders-q : goal.bounds-borders-q
bounds-borders-q c = let s = c.requires.short_mark.0.few in omega arith

pub offset_bounds-sames-q : goal.offset_bounds-sames-q
offset_bounds-sames-q c = let s = c.requires.short_mark.0.few in omega arith

pub bounds-sames-q : goal.bounds-sames-q
bounds-sames-q c = let s = c.requires.short_mark.0.few in omega arith

pub offset_bounds-borders-q-in-loop-q : goal.offset_bounds-borders-q-in-loop-q
offset_bounds-borders-q-in-loop-q c = let s = c.requires.short_mark.0.few in omega arith

pub bounds-borders-q-in-loop-q : goal.bounds-borders-q-in-loop-q
bounds-borders-q-in-loop-q c = let s = c.requires.short_mark.0.few in omega arith

pub loop-q-preserved : goal.loop-q-preserved
loop-q-preserved c =
    let l = c.loop-q in
    let mark = c.args.mark.now in
    let q = l.q in
    let few = c.requires.short_mark.0.few in
    let e : q - 1 + 1 ≡ q = omega arith in
    let next = next_borders mark (q - 1) (omega arith) (omega arith) (l.invariant.1 (q - 1) (omega arith)) (c.requires.sames (q - 1) (omega arith)) c.next_borders.ensures in (
      length-set l.borders q c.next_borders.result ∙ l.invariant.0,
      words_more (λ q w. Exactly w (Border mark q)) l.borders q c.next_borders.result (let n = l.invariant.0 in omega arith) l.invariant.1
          (subst (λ (k : ℕ). Exactly c.next_borders.result (Border mark k)) e next),
    )

pub returns : goal.returns
returns c =
    let l = c.loop-q in
    let mark = c.args.mark.now in
    let some = c.requires.short_mark.0.some in
    let e : l.q ≡ length mark = omega arith in
    subst (λ (k : ℕ). Borders mark k l.borders) e l.invariant.1
