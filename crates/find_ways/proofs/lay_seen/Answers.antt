-- `find_ways::lay_seen`: one row more each turn. Assumes nothing.
use mathlib.Core.Path.{◌≡◌, ◌∙◌, subst}
use Prim.Native.Nat.{ℕ, ◌<◌}
use native.Mathlib.Omega.{arith}
use lib.ListN.{length}
use Rattle.sets.specs.Set.{Exactly}
use Rattle.rows.proofs.Rows.{put_row, rows_more}
use Rattle.find_ways.specs.Ways.{Continued, ContinuedRows}
use Rattle.find_ways.proofs.lay_seen.Goals as goal

pub loop-q-init : goal.loop-q-init
loop-q-init c = (c.told-seen, λ q l. absurd (omega arith))

pub offset_bounds-borders-q : goal.offset_bounds-borders-q
offset_bounds-borders-q c = let s = c.requires.short_mark.few in omega arith

pub bounds-borders-q : goal.bounds-borders-q
bounds-borders-q c = let s = c.requires.short_mark.few in omega arith

pub seen_at-requires : goal.seen_at-requires
seen_at-requires c =
    let l = c.loop-q in
    let small : l.q < length c.args.mark.now = omega arith in
    record {
      short_mark = (c.requires.short_mark, small);
      exactly = (c.requires.borders l.q small, l.invariant.1);
    }

pub loop-q-preserved : goal.loop-q-preserved
loop-q-preserved c =
    let l = c.loop-q in
    let few = c.requires.short_mark.few in
    let long = l.invariant.0 in
    let put = put_row l.seen l.q c.seen_at.result (omega arith) in
    (put.long ∙ long, rows_more (λ q w. Exactly w (Continued c.args.mark.now q)) put l.invariant.1 c.seen_at.ensures)

pub returns : goal.returns
returns c =
    let l = c.loop-q in
    let mark = c.args.mark.now in
    let e : l.q ≡ length mark = omega arith in
    subst (λ (k : ℕ). ContinuedRows mark k l.seen) e l.invariant.1
