-- `find_ways::resets`: a test of each state. Assumes nothing.
use borrow.Author.Rules.{rules}
use Rattle.find_borders.proofs.Collect.{collected, tells_as}
use Rattle.find_ways.proofs.Leads.{outside_goes, goes_outside}
use Rattle.find_ways.proofs.resets.Goals as goal

pub returns : goal.returns
returns c = collected c.numbers.ensures (λ q b l p.
    let mark = c.args.mark.now in
    let row = c.requires.continued_rows q l in
    tells_as (outside_goes mark q l row) (goes_outside mark q l row) (search rules))
