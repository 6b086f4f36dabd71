-- `book_texts::check_text`: a text's numbers are its shape. Assumes nothing.
use mathlib.Core.Path.{subst}
use mathlib.Core.List.{List}
use Rattle.shapes.specs.Shape.{Block}
use Rattle.shapes.specs.Lent.{BlocksChecked}
use Rattle.book_texts.proofs.check_text.Goals as goal

pub returns : goal.returns
returns c = subst (λ (s : List Block). BlocksChecked c.args.k s c.check_blocks.result) c.text.ensures.shape c.check_blocks.ensures
