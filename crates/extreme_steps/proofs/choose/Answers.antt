-- `extreme_steps::choose`: the count and the successor of the steps, of block i. Assumes nothing.
use mathlib.Core.Path.{sym, ap, ap₂, ◌∙◌, subst}
use Prim.Native.Nat.{ℕ, ◌+◌}
use native.Mathlib.Omega.{arith}
use lib.ListN.{drop, replicate}
use Rattle.shapes.specs.Shape.{Block, Sound}
use Rattle.shapes.specs.Lent.{meant, shape_of}
use Rattle.shapes.proofs.Lent.{block_sound}
use Rattle.extreme_steps.specs.declared.Successor.{Successor}
use Rattle.extreme_steps.specs.Steps.{successor}
use Rattle.extreme_steps.specs.Code.{char_in, codes_below, on_taking}
use Rattle.extreme_steps.proofs.Steps.{Chosen, has_character, counted_small, bare_run, bare_after, chosen_run, chosen_codes, step_codes, step_text}
use Rattle.extreme_steps.proofs.choose.Goals as goal
use Rattle.extreme_steps.proofs.choose.Goals.{After-block_at-b}

-- once the block is read: it is sound, and the successor of those behind it
abbrev block : After-block_at-b → Block
block c = meant c.block_at-b.result

sound : (c : After-block_at-b) → Sound (block c)
sound c =
    let s = c in
    subst Sound (sym c.block_at-b.ensures.result_value) (block_sound s.args.shape.now s.args.i s.requires.i_bound s.requires.accepted.sound)

abbrev next : After-block_at-b → Successor
next c = let a = c.args in successor a.d (drop (a.i + 1) (shape_of a.shape.now))

pub returns-then-b-eq0 : goal.returns-then-b-eq0
returns-then-b-eq0 c =
    let k = c in
    let s = k in
    let a = s.args in
    record {
      i_value = step_text a.d a.shape.now a.i (block (goal.at.returns-then-b-eq0 k).After-block_at-b) s.requires.i_bound k.block_at-b.ensures.result_value _ (bare_run a.d (block (goal.at.returns-then-b-eq0 k).After-block_at-b) (next (goal.at.returns-then-b-eq0 k).After-block_at-b) (sound (goal.at.returns-then-b-eq0 k).After-block_at-b) c.if-b-eq0.true);
      below_value_2 = step_codes a.d a.shape.now a.i (block (goal.at.returns-then-b-eq0 k).After-block_at-b) s.requires.i_bound k.block_at-b.ensures.result_value _
          (s.requires.below_value ∙ ap codes_below (bare_after a.d (block (goal.at.returns-then-b-eq0 k).After-block_at-b) (next (goal.at.returns-then-b-eq0 k).After-block_at-b) (sound (goal.at.returns-then-b-eq0 k).After-block_at-b) c.if-b-eq0.true));
    }

pub char_of-c-requires : goal.char_of-c-requires
char_of-c-requires c = let k = c in
    record {
      fact = has_character (block (goal.at.char_of-c-requires k).After-block_at-b) (sound (goal.at.char_of-c-requires k).After-block_at-b) c.if-b-eq0.false;
      base_bound = k.block_at-b.ensures.small;
    }

pub overflow_cast-count : goal.overflow_cast-count
overflow_cast-count c =
    let k = c in
    let small = counted_small c.goes_first-first.result (block (goal.at.overflow_cast-count k).After-block_at-b) (sound (goal.at.overflow_cast-count k).After-block_at-b) in
    let is = c.count_of-count.ensures in
    omega arith

pub returns : goal.returns
returns c =
    let n = c in
    let f = n in
    let k = f in
    let s = k in
    let a = s.args in
    let made : Chosen a.d (block (goal.at.returns k).After-block_at-b) (next (goal.at.returns k).After-block_at-b) f.char_of-c.result n.count_of-count.result f.goes_first-first.result
    = record { character = f.char_of-c.ensures; first = f.goes_first-first.ensures (next (goal.at.returns k).After-block_at-b) s.requires.below_value; counted = n.count_of-count.ensures } in
    let o = c.onward-successor.ensures in
    record {
      i_value = step_text a.d a.shape.now a.i (block (goal.at.returns k).After-block_at-b) s.requires.i_bound k.block_at-b.ensures.result_value _
          (ap (λ (x : Successor). replicate n.count_of-count.result (char_in x)) o ∙ chosen_run made);
      below_value_2 = step_codes a.d a.shape.now a.i (block (goal.at.returns k).After-block_at-b) s.requires.i_bound k.block_at-b.ensures.result_value _
          (ap₂ (λ (x : ℕ) (y : Successor). on_taking n.count_of-count.result x (codes_below y)) s.requires.below_value o ∙ chosen_codes made);
    }
