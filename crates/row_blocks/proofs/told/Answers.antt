-- `row_blocks::told`: the early ends within the block, and whether its last character is taken, tell the lengths.
-- Assumes nothing.
use Prim.Native.Nat.{◌+◌, ◌^◌, ◌≤◌, ◌<◌}
use native.Mathlib.Omega.{arith}
use Rattle.bases.specs.Base.{Holds, codes}
use Rattle.sets.specs.Set.{set_of, Exactly}
use Rattle.bases.proofs.Sets.{cut_small}
use Rattle.row_blocks.proofs.Blocks.{held_of, told_full, told_both, told_early}
use Rattle.row_blocks.proofs.told.Goals as goal
use Rattle.row_blocks.proofs.told.Goals.{After-both-base, After-both-early, After-first}

-- the early ends
ends : (c : After-both-early)
    → let a = c.args in Exactly (set_of c.both-early.result) (λ q. Holds (set_of a.quit) q × ((a.p ≤ q) × (q < a.p + a.b.upper)))
ends c = held_of _ _ c.both-early.ensures c.between.ensures

-- the base is what the characters leave of it, and as small
small : (c : After-both-base) → set_of c.both-base.result < 2 ^ codes
small c = cut_small codes _ _ c.both-base.ensures c.requires.small

-- the least of them is in the block
in_block : (c : After-first)
    → let a = c.args in (a.p ≤ c.first.result) × (c.first.result < a.p + a.b.upper)
in_block c = ((ends (goal.at.After-first c).After-both-early).so c.first.result c.first.ensures.0.held).1

pub returns-then-is_empty : goal.returns-then-is_empty
returns-then-is_empty c =
    let e = c in
    let b = e in
    record {
      told_by = told_full (ends (goal.at.returns-then-is_empty e).After-both-early) b.both-base.ensures (c.is_empty.ensures.so c.if-is_empty.true) b.requires.any_length;
      small_2 = small (goal.at.returns-then-is_empty b).After-both-base;
    }

pub first-requires : goal.first-requires
first-requires c = c.is_empty.ensures.not_so c.if-is_empty.false

pub overflow_sub-least : goal.overflow_sub-least
overflow_sub-least c = (in_block c).0

pub overflow_sub-e : goal.overflow_sub-e
overflow_sub-e c = let h = in_block c in omega arith

pub returns-then-has : goal.returns-then-has
returns-then-has c =
    let f = c in
    let e = f in
    let b = e in
    record {
      told_by = told_both (ends (goal.at.returns-then-has e).After-both-early) b.both-base.ensures f.first.ensures.0 (c.has.ensures.so c.if-has.true);
      small_2 = small (goal.at.returns-then-has b).After-both-base;
    }

pub last-requires : goal.last-requires
last-requires c = c.is_empty.ensures.not_so c.if-is_empty.false

pub overflow_sub-result : goal.overflow_sub-result
overflow_sub-result c = ((ends (goal.at.overflow_sub-result c).After-both-early).so c.last.result c.last.ensures.0.held).1.0

pub returns : goal.returns
returns c =
    let h = c in
    let f = h in
    let e = f in
    let b = e in
    record {
      told_by = told_early (ends (goal.at.returns e).After-both-early) b.both-base.ensures f.first.ensures.0 (h.has.ensures.not_so c.if-has.false) c.last.ensures.0;
      small_2 = small (goal.at.returns b).After-both-base;
    }
