-- `sets::first`: the lowest bit of the first word that is not 0. Assumes nothing.
use native.Mathlib.Omega.{arith}
use Rattle.sets.proofs.Four.{zeros_empty, least_a, least_b, least_c, least_d}
use Rattle.sets.proofs.first.Goals as goal

pub returns-then-s-ne0 : goal.returns-then-s-ne0
returns-then-s-ne0 c = let l = c.lowest.ensures in (least_a c.args.s l.1 l.0, omega arith)

pub returns-then-s-ne0-2 : goal.returns-then-s-ne0-2
returns-then-s-ne0-2 c =
    let l = c.lowest-then-s-ne0-2.ensures in
    let b = c.before.before.before in
    (least_b b.args.s l.1 b.if-s-ne0.false l.0, omega arith)

pub returns-then-s-ne0-3 : goal.returns-then-s-ne0-3
returns-then-s-ne0-3 c =
    let l = c.lowest-then-s-ne0-3.ensures in
    let b = c.before.before.before in
    let s = b.args.s in
    (least_c s l.1 b.if-s-ne0.false b.if-s-ne0-2.false l.0, omega arith)

pub lowest-requires-2 : goal.lowest-requires-2
lowest-requires-2 c = λ z.
    let b = c.before.before in
    b.requires (zeros_empty _ b.if-s-ne0.false b.if-s-ne0-2.false c.if-s-ne0-3.false z)

pub returns : goal.returns
returns c =
    let l = c.lowest-2.ensures in
    let b = c.before.before.before in
    let s = b.args.s in
    (least_d s l.1 b.if-s-ne0.false b.if-s-ne0-2.false c.if-s-ne0-3.false l.0, omega arith)
