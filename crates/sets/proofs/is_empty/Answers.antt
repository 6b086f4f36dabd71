-- `sets::is_empty`: no bit in any word. Assumes nothing.
use borrow.Author.Tests.{eqb-true, eqb-false}
use Rattle.sets.proofs.Four.{words_empty, empty_words}
use Rattle.sets.proofs.is_empty.Goals as goal

pub returns : goal.returns
returns c =
    let s = c.args.s in
    record { so = λ e. words_empty s (eqb-true _ _ e); not_so = λ e p. eqb-false _ _ e (empty_words s p) }
