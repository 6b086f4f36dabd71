-- `carries::meets_word`: what both have is not empty. Assumes nothing.
use Rattle.std.proofs.Common.{sym, ◌∙◌, subst}
use borrow.Author.Tests.{not-true, not-false}
use Rattle.bases.specs.Base.{Empty}
use Rattle.bases.proofs.Laws.{empty_zero, none_in_zero}
use Rattle.bases.proofs.Sets.{meets_of, meets_not}
use Rattle.carries.proofs.Short.{tells_zero}
use Rattle.carries.proofs.meets_word.Goals as goal

pub returns : goal.returns
returns c =
    let t = tells_zero c.in_word.result in
    let b = c.in_word.ensures in
    record {
      so = λ e. meets_of _ _ (λ z. t.not_so (not-true _ e) (subst Empty (sym (b ∙ z)) none_in_zero));
      not_so = λ e. meets_not _ _ (sym b ∙ empty_zero _ (t.so (not-false _ e)));
    }
