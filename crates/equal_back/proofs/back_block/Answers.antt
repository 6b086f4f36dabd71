-- `equal_back::back_block`: row by row, from the block's end to its start; sets of one word are those words. Assumes
-- nothing.
use Rattle.std.proofs.Common.{◌≡◌, true, refl, sym, ◌∙◌, arith}
use mathlib.Core.Bool.{false≢true}
use borrow.Author.Tests.{leb-true}
use Rattle.equal_forth.specs.Forth.{InWords}
use Rattle.equal_back.proofs.Rows.{rows_more, rows_end, row_as}
use Rattle.equal_back.proofs.back_block.Goals as goal
use Rattle.equal_back.proofs.back_block.Goals.{Joined-p-b-le64, then-p-b-le64, else-p-b-le64}

in_words : (c : Joined-p-b-le64) → c.if-p-b-le64.in_word ≡ true → InWords c.args.runs c.args.mine c.args.waits c.args.g.row
in_words c e = elim c.if-p-b-le64.branch [
  | then-p-b-le64 w ↦ w.in_words-in_word.ensures (sym w.in_word-is ∙ e)
  | else-p-b-le64 w ↦ let h = leb-true _ _ (sym w.in_word-is ∙ e) in absurd (omega arith)
]

pub loop-o-preserved-then-in_word : goal.loop-o-preserved-then-in_word
loop-o-preserved-then-in_word c =
    let l = c.loop-o in
    let i = in_words (goal.at.loop-o-preserved-then-in_word c).Joined-p-b-le64 c.if-in_word.true in
    let w = c.back-got.ensures in (
      λ e. w.fits,
      rows_more c.args.rows.now l.o _ _ _ (omega arith) (omega arith) refl l.invariant.1 (row_as _ _ _ _ i.mine_is i.waits_is i.row_is w.whenever),
    )

pub loop-o-preserved : goal.loop-o-preserved
loop-o-preserved c =
    let l = c.loop-o in
    (λ e. absurd (false≢true (sym c.if-in_word.false ∙ e)), rows_more c.args.rows.now l.o _ _ _ (omega arith) (omega arith) refl l.invariant.1 c.back-got-else-in_word.ensures.whenever)

pub returns : goal.returns
returns c = let l = c.loop-o in rows_end c.args.rows.now _ _ (omega arith) l.invariant.1
