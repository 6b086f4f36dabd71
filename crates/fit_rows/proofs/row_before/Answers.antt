-- `fit_rows::row_before_lem`: the lower's steps, then up to as many more as the block and the text allow. Assumes nothing.
use native.Mathlib.Omega.{arith}
use Rattle.fit_rows.proofs.Rows.{row_next}
use Rattle.fit_rows.proofs.row_before.Goals as goal

pub returns : goal.returns
returns c = λ s t e h w.
    let few = c.min-more.ensures in
    row_next _ s t _ _ _ _ _ c.requires.ordered (omega arith) (λ k l m. omega arith) h c.steps-least.ensures c.steps_up_to.ensures w
