-- `sets::last`: the highest bit of the last word that is not 0. Assumes nothing.
use native.Mathlib.Omega.{arith}
use Rattle.sets.proofs.Four.{zeros_empty, greatest_a, greatest_b, greatest_c, greatest_d}
use borrow.Author.Rules.{rules}
use Rattle.sets.proofs.last.Goals as goal

pub returns-then-s-ne0 : goal.returns-then-s-ne0
returns-then-s-ne0 c = let l = c.highest.ensures in (greatest_d c.args.s (search rules) l.0, omega arith)

pub returns-then-s-ne0-2 : goal.returns-then-s-ne0-2
returns-then-s-ne0-2 c =
    let l = c.highest-then-s-ne0-2.ensures in
    let b = c.before.before.before in
    (greatest_c b.args.s (search rules) b.if-s-ne0.false l.0, omega arith)

pub returns-then-s-ne0-3 : goal.returns-then-s-ne0-3
returns-then-s-ne0-3 c =
    let l = c.highest-then-s-ne0-3.ensures in
    let b = c.before.before.before in
    let s = b.args.s in
    (greatest_b s (search rules) b.if-s-ne0.false b.if-s-ne0-2.false l.0, omega arith)

pub highest-requires-2 : goal.highest-requires-2
highest-requires-2 c = λ z.
    let b = c.before.before in
    b.requires (zeros_empty _ z c.if-s-ne0-3.false b.if-s-ne0-2.false b.if-s-ne0.false)

pub returns : goal.returns
returns c =
    let l = c.highest-2.ensures in
    let b = c.before.before.before in
    let s = b.args.s in
    (greatest_a s (search rules) b.if-s-ne0.false b.if-s-ne0-2.false c.if-s-ne0-3.false l.0, omega arith)
