-- `sets::meets`: what both have is not empty. Assumes nothing.
use mathlib.Core.Path.{sym, ◌∙◌, subst}
use borrow.Author.Tests.{not-true, not-false}
use Rattle.bases.specs.Base.{Empty}
use Rattle.bases.proofs.Laws.{empty_zero, none_in_zero}
use Rattle.bases.proofs.Sets.{meets_of, meets_not}
use Rattle.sets.proofs.meets.Goals as goal

pub returns : goal.returns
returns c =
    let t = c.is_empty.ensures in
    let b = c.both.ensures in
    record {
      so = λ e. meets_of _ _ (λ z. t.not_so (not-true _ e) (subst Empty (sym (b ∙ z)) none_in_zero));
      not_so = λ e. meets_not _ _ (sym b ∙ empty_zero _ (t.so (not-false _ e)));
    }
