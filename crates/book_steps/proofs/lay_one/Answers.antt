-- `book_steps::lay_one`: what stands at the text's place, compared with the new numbers before they are laid over it.
-- Assumes nothing.
use mathlib.Core.Path.{◌≡◌, sym, ap, ap₂, ◌∙◌}
use mathlib.Core.Bool.{Bool}
use mathlib.Core.List.{List}
use Prim.Native.Nat.{ℕ, ◌+◌, ◌-◌, ◌*◌, ◌≤◌}
use native.Mathlib.Omega.{arith}
use lib.ListN.{length, take, drop, length-drop}
use lib.Seq.{length-take-le}
use Rattle.plain.specs.Tells.{Tells}
use Rattle.shapes.specs.Shape.{block_size}
use Rattle.laying.specs.Laid.{replaced}
use Rattle.laying.proofs.Laid.{stood_there, read_there}
use Rattle.books.specs.Counts.{count_of}
use Rattle.book_steps.proofs.lay_one.Goals as goal
use Rattle.book_steps.proofs.lay_one.Goals.{After-range_of-range}

-- a part of xs is what is put in its place, exactly if xs stays as it is
part_same : {r : Bool} (m n : ℕ) (xs new ys : List ℕ) → m + n ≤ length xs → length new ≡ n → ys ≡ replaced m new xs → Tells r (take n (drop m xs) ≡ new) → Tells r (ys ≡ xs)
part_same m n xs new ys h e f t = record {
  so = λ p. f ∙ stood_there m new xs (ap (λ (k : ℕ). take k (drop m xs)) e ∙ t.so p) (omega arith);
  not_so = λ p q. t.not_so p (ap (λ (k : ℕ). take k (drop m xs)) (sym e) ∙ ap (λ (l : List ℕ). take (length new) (drop m l)) (sym q ∙ f) ∙ read_there m new xs (omega arith));
}

-- the new numbers are as many as the old
new_size : (c : After-range_of-range) → let r = c.range_of-range.result in length (take (r.to - r.from) c.args.x.now) ≡ r.to - r.from
new_size c =
    let few = c.range_of-range.ensures.few in
    let to = c.range_of-range.ensures.to in
    let room = c.requires.block_size_in_bounds in
    length-take-le _ c.args.x.now (omega arith)

-- and lie within all
within : (c : After-range_of-range) → let r = c.range_of-range.result in r.from + (r.to - r.from) ≤ length c.args.numbers.now
within c =
    let to = c.range_of-range.ensures.to in
    let last = c.range_of-range.ensures.within in
    let all = c.requires.numbers_len in
    omega arith

pub slice_bounds-new-count : goal.slice_bounds-new-count
slice_bounds-new-count c = omega arith

pub same_numbers-same-requires : goal.same_numbers-same-requires
same_numbers-same-requires c =
    let at = (goal.at.same_numbers-same-requires c).After-range_of-range in
    let r = c.range_of-range.result in
    let xs = c.args.numbers.now in
    let room = within at in
    length-take-le (r.to - r.from) (drop r.from xs) (let d = length-drop r.from xs in omega arith) ∙ sym (new_size at)

pub lay-requires : goal.lay-requires
lay-requires c =
    let at = (goal.at.lay-requires c).After-range_of-range in
    let room = within at in
    let size = new_size at in
    omega arith

pub returns-clause-tells : goal.returns-clause-tells
returns-clause-tells c =
    let at = (goal.at.returns-clause-tells c).After-range_of-range in
    let r = c.range_of-range.result in
    part_same r.from (r.to - r.from) c.args.numbers.now _ _ (within at) (new_size at) c.lay.ensures c.same_numbers-same.ensures

pub returns-clause-numbers_after : goal.returns-clause-numbers_after
returns-clause-numbers_after c =
    let r = c.range_of-range.result in
    let to = c.range_of-range.ensures.to in
    let size : r.to - r.from ≡ count_of c.args.counts.now c.args.k * block_size = omega arith in
    c.lay.ensures ∙ ap₂ (λ (m n : ℕ). replaced m (take n c.args.x.now) c.args.numbers.now) c.range_of-range.ensures.from size
