-- `find_ways::falls_at`: one state more each turn. Assumes nothing.
use mathlib.Core.List.{[], ◌∷◌, ◌++◌}
use Prim.Native.Nat.{◌+◌, ◌<◌}
use native.Mathlib.Omega.{arith}
use lib.ListN.{length, get_or, take}
use Rattle.sets.proofs.Exact.{exactly_as}
use Rattle.find_texts.specs.Match.{Matched}
use Rattle.find_borders.proofs.Collect.{collect_none, collect_more, collect_end, tells_as}
use Rattle.find_ways.proofs.Leads.{tops_matched, matched_tops}
use Rattle.find_ways.proofs.falls_at.Goals as goal

pub loop-q-init : goal.loop-q-init
loop-q-init c = (omega arith, collect_none _ (λ e g h. let k = h.0 in omega arith))

pub loop-q-preserved : goal.loop-q-preserved
loop-q-preserved c =
    let l = c.loop-q in
    let a = c.args in
    let mark = a.mark.now in
    let q = l.q in
    let small : q < length mark = omega arith in
    let above = l.invariant.0 in
    let word = c.requires.borders.0 q small in
    let same = c.requires.borders.1 in
    let next = get_or mark a.r 0 in
    let t = tells_as {Q = (a.r < q) × Matched mark (take q mark ++ (next ∷ [])) (a.r + 1)}
    (λ g. (above, tops_matched mark q small next word same g))
    (λ m. matched_tops mark q small next (omega arith) word same m.1)
    c.tops.ensures in
    (omega arith, collect_more _ l.invariant.1 t c.add_if-w.ensures)

pub returns : goal.returns
returns c = exactly_as (λ e h. (h.1.0, (h.0, h.1.1))) (λ e h. (h.1.0, (h.0, h.1.1))) (collect_end _ (omega arith) c.loop-q.invariant.1)
