-- `book_steps::lay_text`: told of this text, and of those before. Assumes nothing.
use Rattle.plain.proofs.Tells.{tells_false}
use Rattle.book_steps.proofs.Laid.{tells_kept}
use Rattle.book_steps.proofs.lay_text.Goals as goal

pub returns-then-lay_one-clause-tells : goal.returns-then-lay_one-clause-tells
returns-then-lay_one-clause-tells c = tells_kept c.args.same (c.lay_one.ensures.tells.so c.if-lay_one.true)

pub returns-clause-tells : goal.returns-clause-tells
returns-clause-tells c = tells_false (λ h. c.lay_one.ensures.tells.not_so c.if-lay_one.false h.1)
