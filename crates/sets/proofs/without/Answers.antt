-- `sets::without`: what the two share, taken out word by word. Assumes nothing.
use mathlib.Core.Path.{ap, ◌∙◌}
use lib.Bits.{bit_xor}
use Rattle.sets.specs.Set.{set_of}
use Rattle.sets.proofs.Exact.{without_exactly}
use Rattle.sets.proofs.Four.{differing_words}
use borrow.Author.Rules.{rules}
use Rattle.sets.proofs.without.Goals as goal

pub returns : goal.returns
returns c =
    let p = c.before.before.before.before.before.before.before.before in
    let s = p.args.s in
    let b = p.both-shared in
    without_exactly _ _ (differing_words s b.result (search rules) (search rules) ∙ ap (bit_xor (set_of s)) b.ensures)
