-- `extremes::length_of`: the counts so far are the length of the text from block i on. Assumes nothing.
use mathlib.Core.Path.{◌≡◌, sym, ap, ◌∙◌}
use Prim.Native.Nat.{ℕ, ◌+◌, ◌-◌, ◌≤◌}
use native.Mathlib.Omega.{arith}
use lib.ListN.{length, drop}
use Rattle.shapes.specs.Lent.{shape_of}
use Rattle.plain.proofs.All.{all_of}
use Rattle.shapes.proofs.Lent.{small_bases}
use Rattle.extreme_steps.specs.Steps.{successor}
use Rattle.extreme_steps.specs.Code.{codes_below, text_from}
use Rattle.extreme_steps.proofs.Steps.{successor_end, text_end}
use Rattle.extremes.proofs.Write.{text_room, run_counted}
use Rattle.extremes.proofs.length_of.Goals as goal
use Rattle.extremes.proofs.length_of.Goals.{After-choose-k}

-- the sum with what block i chooses, which is at most 250
added : (c : After-choose-k) → let l = c in
    (l.loop-i.sum + c.choose-k.result.count ≡ length (text_from l.args.d l.args.shape.now (l.loop-i.i - 1)))
    × (l.loop-i.sum + c.choose-k.result.count ≤ 250)
added c =
    let l = c in
    let s = l in
    let xs = s.args.shape.now in
    let back : l.loop-i.i ≡ l.loop-i.i - 1 + 1 = omega arith in
    let so_far = l.loop-i.invariant.1 ∙ ap (λ (m : ℕ). length (text_from s.args.d xs m)) back in
    let more = run_counted s.args.d xs (l.loop-i.i - 1) (l.loop-i.i - 1 + 1) c.choose-k.result c.choose-k.ensures.i_value in
    let grown = more.0 in
    let short = more.1 in
    let room = text_room s.args.d xs s.requires (small_bases _ (all_of xs 0 (λ j h. (l.type_inv.shape j).fits))) in
    (omega arith, omega arith)

pub loop-i-init : goal.loop-i-init
loop-i-init c =
    let d = c.args.d in
    let xs = c.args.shape.now in
    (c.codes_below-below.ensures ∙ ap codes_below (successor_end d xs), sym (ap length (text_end d xs)))

pub choose-k-requires : goal.choose-k-requires
choose-k-requires c =
    let l = c in
    let s = l in
    let back : l.loop-i.i ≡ l.loop-i.i - 1 + 1 = omega arith in
    record {
      accepted = s.requires;
      i_bound = omega arith;
      below_value = l.loop-i.invariant.0 ∙ ap (λ (m : ℕ). codes_below (successor s.args.d (drop m (shape_of s.args.shape.now)))) back;
    }

pub overflow_cast-sum : goal.overflow_cast-sum
overflow_cast-sum c = let b = (added (goal.at.overflow_cast-sum c).After-choose-k).1 in omega arith

pub overflow_add-sum : goal.overflow_add-sum
overflow_add-sum c = let b = (added (goal.at.overflow_add-sum c).After-choose-k).1 in omega arith

pub loop-i-preserved : goal.loop-i-preserved
loop-i-preserved c = let k = c in (c.codes_onward-below.ensures ∙ k.choose-k.ensures.below_value_2, (added (goal.at.loop-i-preserved k).After-choose-k).0)

pub returns : goal.returns
returns c =
    let l = c.loop-i in
    let s = c in
    let first : l.i ≡ 0 = omega arith in
    l.invariant.1 ∙ ap (λ (m : ℕ). length (text_from s.args.d s.args.shape.now m)) first
