-- `shape_checks::check_each`: every block passed is sound. Assumes nothing.
use Rattle.std.proofs.Common.{◌+◌, subst, arith}
use Rattle.std.proofs.lemmas.Result.{err_from_is_err_and}
use Rattle.answers.specs.Told.{told}
use Rattle.shapes.specs.Shape.{Block}
use Rattle.shapes.specs.Wrong.{BlockRefused}
use Rattle.shapes.proofs.Lent.{all_sound, first_block}
use Rattle.shape_checks.proofs.check_each.Goals as goal

pub returns-in_err-check_block : goal.returns-in_err-check_block
returns-in_err-check_block c =
    let p = err_from_is_err_and c.from_residual.result c.from_residual.ensures.1 in
    let n = c.args.number in
    let i = c.loop-i.i in
    let bad = subst (λ (b : Block). BlockRefused n (i + 1) b (told c.in_err-check_block.field-0.0)) c.block_at-block.ensures.result_value c.in_err-check_block.ensures in
    rw (p.1, p.2) (_, first_block n c.args.shape.now i (omega arith) c.loop-i.invariant bad)

pub returns : goal.returns
returns c = all_sound _ (λ j h. c.loop-i.invariant j (omega arith))
