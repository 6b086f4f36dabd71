-- `carries::is_word`: no other word has a number. Assumes nothing.
use Rattle.std.proofs.Common.{sym, ◌∙◌, ⊎_elim, eqb-true}
use borrow.Author.Tests.{eqb-false}
use Rattle.carries.proofs.Short.{one_word_set, short_set, long_set}
use Rattle.carries.proofs.is_word.Goals as goal
use Rattle.carries.proofs.is_word.Goals.{then-s-eq0, else-s-eq0}

pub returns-then-s-eq0-2 : goal.returns-then-s-eq0-2
returns-then-s-eq0-2 c =
    let s = c.args.s in
    let h = c.if-s-eq0-2.true in
    (λ e. sym (short_set s h.0 h.1 (eqb-true _ _ e)) ∙ one_word_set s.a, λ e. long_set _ (λ b k d. eqb-false _ _ e d))

pub returns-else-s-eq0-2 : goal.returns-else-s-eq0-2
returns-else-s-eq0-2 c =
    let h = c.if-s-eq0-2.either in (
      λ e. elim c.if-s-eq0.branch [
        | then-s-eq0 w ↦ absurd (⊎_elim (λ n. n.1 (eqb-true _ _ (sym w.t-3-is ∙ e))) (λ n. n w.if-s-eq0.true) h)
        | else-s-eq0 w ↦ absurd (w.if-s-eq0.false (eqb-true _ _ (sym w.t-3-is ∙ e)))
      ],
      λ e. long_set _ (λ b k d. ⊎_elim (λ n. n.1 k) (λ n. n b) h),
    )
