-- `find_ways::lay_falls`: one word more each turn; those behind it still tell where the mark has its character. Assumes
-- nothing.
use mathlib.Core.Path.{◌≡◌, ◌∙◌, subst}
use Prim.Native.Nat.{ℕ, ◌<◌}
use native.Mathlib.Omega.{arith}
use lib.ListN.{length, length-set}
use lib.Seq.{get_or-set_other}
use Rattle.sets.specs.Set.{Exactly}
use Rattle.sets.proofs.Exact.{exactly_at}
use Rattle.find_borders.proofs.Collect.{words_more}
use Rattle.find_ways.specs.Ways.{FallAt, FallWords}
use Rattle.find_ways.proofs.lay_falls.Goals as goal

pub loop-r-init : goal.loop-r-init
loop-r-init c = let p = c.requires in (p.short_mark.1, (λ r l. absurd (omega arith)), λ i g l. p.borders.1 i l)

pub offset_bounds-words-r : goal.offset_bounds-words-r
offset_bounds-words-r c = let s = c.requires.short_mark.0.few in omega arith

pub bounds-words-r : goal.bounds-words-r
bounds-words-r c = let s = c.requires.short_mark.0.few in omega arith

pub falls_at-requires : goal.falls_at-requires
falls_at-requires c =
    let l = c.loop-r in
    let small : l.r < length c.args.mark.now = omega arith in
    record {
      short_mark = (c.requires.short_mark.0, small);
      borders = (c.requires.borders.0, l.invariant.2 l.r (omega arith) small);
    }

pub offset_bounds-words-r-in-loop-r : goal.offset_bounds-words-r-in-loop-r
offset_bounds-words-r-in-loop-r c = let s = c.requires.short_mark.0.few in omega arith

pub bounds-words-r-in-loop-r : goal.bounds-words-r-in-loop-r
bounds-words-r-in-loop-r c = let s = c.requires.short_mark.0.few in omega arith

pub loop-r-preserved : goal.loop-r-preserved
loop-r-preserved c =
    let l = c.loop-r in
    let mark = c.args.mark.now in
    let few = c.requires.short_mark.0.few in
    let x = c.falls_at.result in (
      length-set l.words l.r x ∙ l.invariant.0,
      words_more (λ r w. Exactly w (FallAt mark r)) l.words l.r x (let n = l.invariant.0 in omega arith) l.invariant.1 c.falls_at.ensures,
      λ i g b. exactly_at (get_or-set_other l.words l.r i x 0 (λ z. omega arith)) (l.invariant.2 i (omega arith) b),
    )

pub returns : goal.returns
returns c =
    let l = c.loop-r in
    let mark = c.args.mark.now in
    let e : l.r ≡ length mark = omega arith in
    subst (λ (k : ℕ). FallWords mark k l.words) e l.invariant.1
