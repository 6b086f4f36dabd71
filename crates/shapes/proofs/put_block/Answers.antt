-- `shapes::put_block`: its numbers are set; a base of characters that there are is its first words. Assumes nothing.
use native.Mathlib.Numerals.{towards_suc}
use native.Mathlib.Omega.{arith}
use lib.ListN.{length-set}
use Rattle.shapes.proofs.Put.{put_carried}
use borrow.Author.Rules.{rules}
use Rattle.shapes.proofs.put_block.Goals as goal

pub bounds-out-at-2 : goal.bounds-out-at-2
bounds-out-at-2 c = simp length-set (omega arith)

pub bounds-out-at-3 : goal.bounds-out-at-3
bounds-out-at-3 c = simp length-set (omega arith)

pub bounds-out-at-4 : goal.bounds-out-at-4
bounds-out-at-4 c = simp length-set (omega arith)

pub bounds-out-at-5 : goal.bounds-out-at-5
bounds-out-at-5 c = simp length-set (omega arith)

pub bounds-out-at-6 : goal.bounds-out-at-6
bounds-out-at-6 c = simp length-set (omega arith)

pub returns : goal.returns
returns c = simp towards_suc (put_carried _ _ _ _ _ (search rules) c.requires.small c.requires.i_bound)
