-- `book_rounds::run_accepted`: the rounds over a copy of the blocks, which is laid back where the shapes are stable.
-- Assumes nothing.
use mathlib.Core.Path.{◌≡◌, sym, ap, ◌∙◌}
use mathlib.Core.List.{List}
use Prim.Native.Nat.{ℕ, ◌*◌, ◌%◌, ◌≤◌}
use native.Mathlib.Omega.{arith}
use borrow.Author.Rules.{rules}
use lib.ListN.{length, replicate}
use lib.Seq.{length-take-le}
use Rattle.plain.proofs.All.{all_of}
use Rattle.rules.specs.Limits.{book_blocks}
use Rattle.shapes.specs.Shape.{block_size}
use Rattle.shapes.specs.Lent.{shape_of, words_of}
use Rattle.shapes.proofs.Numbers.{words_shape}
use Rattle.book_steps.specs.Step.{Running}
use Rattle.book_steps.proofs.Standing.{few_blocks}
use Rattle.book_rounds.proofs.run_accepted.Goals as goal

-- the blocks have room in the copy
room : {counts xs rules : List ℕ} → Running counts xs rules → length xs ≤ book_blocks * block_size
room r = let t = r.texts in let e = t.standing.size in let h = few_blocks _ t.each t.few in omega arith

pub slice_bounds-copy-end : goal.slice_bounds-copy-end
slice_bounds-copy-end c = room c.requires

pub slice_bounds-numbers-end : goal.slice_bounds-numbers-end
slice_bounds-numbers-end c = sym (length-take-le _ (replicate 1536 0) (room c.requires))

pub copy_from_slice-requires : goal.copy_from_slice-requires
copy_from_slice-requires c = length-take-le _ (replicate 1536 0) (room c.requires)

pub returns-in-Stable : goal.returns-in-Stable
returns-in-Stable c =
    let says = c.in-Stable.ensures in
    let left = c.run_rounds-ended.new.numbers in
    let front = c.copy_from_slice.ensures.after in
    let over = c.copy_from_slice-in-Stable.ensures.after in
    let whole : length left % block_size ≡ 0 = let e = c.run_rounds-ended.auto.numbers ∙ ap length front in let w = c.requires.texts.standing.size in omega arith in
    let words : words_of (shape_of left) ≡ left = words_shape left whole (all_of left 0 (λ i h. search rules)) in
    rw c.in-Stable.is (shape_of left, rw front at says, over ∙ sym words)
