-- `common_next::weigh_block`: its positions among those that the text so far leads to; nothing is found there if no
-- character is at hand. Assumes nothing.
use mathlib.Core.Path.{refl, ap, ◌∙◌, subst}
use Prim.Native.Nat.{ℕ, ◌^◌, ◌<◌}
use lib.Bits.{bit_and}
use Rattle.bases.specs.Base.{Holds, codes}
use Rattle.sets.specs.Set.{set_of, Exactly}
use Rattle.sets.proofs.Exact.{both_exactly}
use Rattle.shapes.specs.Shape.{Block}
use Rattle.rows.specs.Row.{slot_in}
use Rattle.common_next.proofs.Blocks.{block_begun, none_usable, members_small, block_found}
use Rattle.common_next.proofs.weigh_block.Goals as goal
use Rattle.common_next.proofs.weigh_block.Goals.{After-both-left}

-- the block's positions among those of P
members : (c : After-both-left) → let a = c.args in Exactly (set_of c.both-left.result) (λ i. Holds (set_of a.own) i × Holds (slot_in a.both.now.layout_x.now a.a) i)
members c = both_exactly (set_of c.args.own) _ c.both-left.ensures

pub returns-then-is_empty : goal.returns-then-is_empty
returns-then-is_empty c =
    let p = c.requires in
    let b = c.block_at-b.ensures in
    none_usable c.args.both.now.x.now c.args.both.now.y.now (set_of c.args.own) (set_of c.args.other)
    (block_begun c.args.both.now.x.now c.args.both.now.y.now (set_of c.args.own) (set_of c.args.other) p.slotted.0 p.a_bound (members (goal.at.returns-then-is_empty c).After-both-left) refl p.chosen_to)
    (subst (λ (b : Block). b.base < 2 ^ codes) b.result_value b.small) p.near_has (c.both-usable.ensures ∙ ap (λ (q : ℕ). bit_and q (set_of c.args.near)) (ap (λ (b : Block). b.base) b.result_value)) (c.is_empty.ensures.so c.if-is_empty.true)

pub weigh_all-requires-clause-by_index : goal.weigh_all-requires-clause-by_index
weigh_all-requires-clause-by_index c =
    let p = c.requires in
    members_small c.args.both.now.x.now c.args.both.now.y.now (set_of c.args.own) (set_of c.args.other) p.slotted.0 p.end_rows p.a_bound (members (goal.at.weigh_all-requires-clause-by_index c).After-both-left)

pub returns : goal.returns
returns c =
    let p = c.requires in
    let b = c.block_at-b.ensures in
    let f = c.first-least.ensures in
    block_found c.args.both.now.x.now c.args.both.now.y.now (set_of c.args.own) (set_of c.args.other) p.slotted.0 p.end_rows p.a_bound (members (goal.at.returns c).After-both-left) _ _ c.none.ensures b.small p.near_has
    (ap (λ (b : Block). b.base) b.result_value) c.both-usable.ensures f.0 f.1 c.both-beside.ensures c.weigh_all.ensures p.chosen_to
