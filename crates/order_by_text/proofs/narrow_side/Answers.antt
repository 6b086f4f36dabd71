-- `order_by_text::narrow_side`: the layout, then the passes over it. Assumes nothing.
use native.Mathlib.Omega.{arith}
use mathlib.Core.Path.{refl}
use Rattle.plain.proofs.All.{all_of}
use Rattle.shapes.proofs.Lent.{small_bases}
use Rattle.row_paths.proofs.Laid.{laid_part}
use Rattle.order_by_text.proofs.Answers.{one_side}
use Rattle.order_by_text.proofs.narrow_side.Goals as goal

pub narrow_laid-requires-clause-laid : goal.narrow_laid-requires-clause-laid
narrow_laid-requires-clause-laid c = (laid_part _ _ _ c.requires.whole c.lay-u.ensures.lay refl (omega arith), c.lay-u.ensures.value)

pub returns : goal.returns
returns c = one_side _ _ _ (small_bases _ (all_of c.args.x.now 0 (λ i h. (c.type_inv.x i).fits))) c.narrow_laid.ensures
