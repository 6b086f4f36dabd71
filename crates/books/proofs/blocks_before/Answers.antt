-- `books::blocks_before`: what std sums is the sum of the counts. Assumes nothing.
use Rattle.std.proofs.Common.{rules, arith, ◌≡◌, ◌^◌, ◌<◌, take, sum, ◌∙◌}
use Rattle.books.proofs.Sums.{sum_is, sum_fits, sum_small}
use Rattle.books.proofs.blocks_before.Goals as goal

pub sum-requires-clause-fits : goal.sum-requires-clause-fits
sum-requires-clause-fits c =
    let fits : sum (take c.args.k c.args.counts.now) < 2 ^ 64 = sum_fits c.args.counts.now c.args.k c.requires.all (omega arith) in
    search rules

pub returns : goal.returns
returns c =
    let counts = c.args.counts.now in
    let all : c.sum.result ≡ sum (take c.args.k counts) = search rules in
    let few = sum_small counts c.args.k c.requires.all in
    let e = sum_is (take c.args.k counts) in
    record { sum = all ∙ e; few = omega arith }
