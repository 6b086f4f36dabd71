-- `find_ways::seen_at`: the mark's next character, and those of the longest shorter border. Assumes nothing.
use mathlib.Core.Path.{◌≡◌, subst}
use Prim.Native.Nat.{ℕ}
use native.Mathlib.Omega.{arith}
use lib.ListN.{get_or}
use Rattle.sets.specs.Set.{set_of, Exactly}
use Rattle.find_texts.proofs.State.{ends_none}
use Rattle.find_ways.specs.Ways.{Continued}
use Rattle.find_ways.proofs.Leads.{first_continued, more_continued}
use Rattle.find_ways.proofs.seen_at.Goals as goal

pub overflow_cast-mark : goal.overflow_cast-mark
overflow_cast-mark c = omega (arith, c.type_inv.mark c.args.q)

pub single-own-requires : goal.single-own-requires
single-own-requires c = omega (arith, c.type_inv.mark c.args.q)

pub returns-then-q-eq0 : goal.returns-then-q-eq0
returns-then-q-eq0 c =
    let mark = c.args.mark.now in
    let x = set_of c.single-own.result in
    subst (λ (q : ℕ). Exactly x (λ e. e ≡ get_or mark q 0) → Exactly x (Continued mark q)) (let z = c.if-q-eq0.true in omega arith) (first_continued mark) c.single-own.ensures

pub greatest_below-requires : goal.greatest_below-requires
greatest_below-requires c =
    let s = c in
    let z = c.if-q-eq0.false in
    let few = s.requires.short_mark.0.few in
    let l = s.requires.short_mark.1 in
    (omega arith, omega arith, s.requires.exactly.0.has 0 (record { few = omega arith; ends = ends_none _ }))

pub returns : goal.returns
returns c =
    let s = c in
    let g = c.greatest_below.ensures in
    more_continued s.args.mark.now s.args.q s.requires.short_mark.1 s.requires.exactly.0 g c.single-own.ensures (s.requires.exactly.1 _ g.below)
    c.either.ensures
