-- `carries::differing`: word by word. Assumes nothing.
use Rattle.std.proofs.Common.{ℕ, ◌^◌, ◌<◌, sym, subst, rules}
use lib.Bits.{xor_lt}
use Rattle.sets.specs.Set.{set_of}
use Rattle.sets.proofs.Four.{differing_words, set_bound}
use borrow.Author.Rules.{rules}
use Rattle.carries.proofs.differing.Goals as goal

pub returns : goal.returns
returns c =
    let a = c.args in
    let e = differing_words a.s a.t (search rules) (search rules) in
    (e, subst (λ (n : ℕ). n < 2 ^ 256) (sym e) (xor_lt 256 (set_of a.s) (set_of a.t) (set_bound a.s (search rules)) (set_bound a.t (search rules))))
