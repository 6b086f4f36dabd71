-- `extremes::write_extreme`: the text from block i on stands in its place, before the text's end. Assumes nothing.
use mathlib.Core.Path.{◌≡◌, ap, ◌∙◌, subst}
use mathlib.Core.List.{◌++◌}
use Prim.Native.Nat.{ℕ, ◌+◌, ◌-◌, ◌≤◌}
use native.Mathlib.Omega.{arith}
use lib.ListN.{length, take, drop}
use Rattle.plain.specs.All.{All}
use Rattle.shapes.specs.Shape.{Small}
use Rattle.shapes.specs.Lent.{shape_of}
use Rattle.plain.proofs.All.{all_of}
use Rattle.shapes.proofs.Lent.{small_bases}
use Rattle.extreme_steps.specs.Steps.{successor, extreme}
use Rattle.extreme_steps.specs.Code.{codes_below, run_of, text_from}
use Rattle.extreme_steps.proofs.Steps.{successor_end, text_end}
use Rattle.extremes.proofs.Best.{is_extreme}
use Rattle.extremes.proofs.Write.{text_room, run_counted, StandsIn, stands_none, stands_more}
use Rattle.extremes.proofs.write_extreme.Goals as goal
use Rattle.extremes.proofs.write_extreme.Goals.{After-choose-k, After-length_of-n}

-- the first pass counts the text, which keeps within 250
long : (c : After-length_of-n) → let a = c.args in c.length_of-n.result ≡ length (extreme a.d (shape_of a.shape.now))
long c = c.length_of-n.ensures

small : (c : After-length_of-n) → All Small (shape_of c.args.shape.now)
small c = small_bases _ (all_of _ 0 (λ j h. (c.type_inv.shape j).fits))

room : (c : After-length_of-n) → c.length_of-n.result ≤ 250
room c = let s = c in let r = text_room s.args.d s.args.shape.now s.requires.accepted (small c) in let e = long c in omega arith

-- the run of block i goes in front of the text from the block behind it on
front : (c : After-choose-k) → let l = c in let a = l.args in
    run_of c.choose-k.result ++ text_from a.d a.shape.now l.loop-i.i ≡ text_from a.d a.shape.now (l.loop-i.i - 1)
front c =
    let l = c in
    let a = l.args in
    let back : l.loop-i.i ≡ l.loop-i.i - 1 + 1 = omega arith in
    ap (λ (m : ℕ). run_of c.choose-k.result ++ text_from a.d a.shape.now m) back ∙ c.choose-k.ensures.i_value

-- and there is room for it
fits : (c : After-choose-k) → (c.choose-k.result.count ≤ c.loop-i.at) × (c.loop-i.at ≤ 250)
fits c =
    let l = c in
    let a = l.args in
    let more = run_counted a.d a.shape.now (l.loop-i.i - 1) l.loop-i.i c.choose-k.result (front c) in
    let grown = more.0 in
    let short = more.1 in
    let ends = l.loop-i.invariant.1.ends in
    let e = long (goal.at.After-choose-k l).After-length_of-n in
    let r = room (goal.at.After-choose-k l).After-length_of-n in
    (omega arith, omega arith)

pub length_of-n-requires : goal.length_of-n-requires
length_of-n-requires c = c.requires.accepted

pub loop-i-init : goal.loop-i-init
loop-i-init c =
    let o = c in
    let a = o.args in
    (c.codes_below-below.ensures ∙ ap codes_below (successor_end a.d a.shape.now), stands_none o.length_of-n.result a.out.now (text_end a.d a.shape.now))

pub choose-k-requires : goal.choose-k-requires
choose-k-requires c =
    let l = c in
    let s = l in
    let back : l.loop-i.i ≡ l.loop-i.i - 1 + 1 = omega arith in
    record {
      accepted = s.requires.accepted;
      i_bound = omega arith;
      below_value = l.loop-i.invariant.0 ∙ ap (λ (m : ℕ). codes_below (successor s.args.d (drop m (shape_of s.args.shape.now)))) back;
    }

pub overflow_cast-at : goal.overflow_cast-at
overflow_cast-at c = let f = fits (goal.at.overflow_cast-at c).After-choose-k in let g = f.0 in let h = f.1 in omega arith

pub overflow_sub-at : goal.overflow_sub-at
overflow_sub-at c = let f = (fits (goal.at.overflow_sub-at c).After-choose-k).0 in omega arith

pub put_run-requires : goal.put_run-requires
put_run-requires c =
    let k = c in
    let l = k in
    let f = (fits (goal.at.put_run-requires k).After-choose-k).0 in
    let h = (fits (goal.at.put_run-requires k).After-choose-k).1 in
    let same = l.loop-i.auto.out in
    let wide = l.requires.in_bounds in
    omega arith

pub loop-i-preserved : goal.loop-i-preserved
loop-i-preserved c =
    let p = c in
    let k = p in
    let l = k in
    let r = room (goal.at.loop-i-preserved l).After-length_of-n in
    let wide = l.requires.in_bounds in (
      c.codes_onward-below.ensures ∙ k.choose-k.ensures.below_value_2,
      stands_more l.loop-i.at l.length_of-n.result k.choose-k.result l.loop-i.invariant.1 (omega arith) (fits (goal.at.loop-i-preserved k).After-choose-k).0 (front (goal.at.loop-i-preserved k).After-choose-k) p.put_run.ensures,
    )

pub returns : goal.returns
returns c =
    let l = c.loop-i in
    let o = c in
    let s = o in
    let first : l.i ≡ 0 = omega arith in
    let whole : StandsIn l.at o.length_of-n.result (extreme s.args.d (shape_of s.args.shape.now)) s.args.out.now l.out
    = subst (λ (m : ℕ). StandsIn l.at o.length_of-n.result (text_from s.args.d s.args.shape.now m) s.args.out.now l.out) first l.invariant.1 in
    let ends = whole.ends in
    let e = long (goal.at.returns o).After-length_of-n in
    let start : l.at ≡ 0 = omega arith in
    record {
      accepted = s.requires.accepted;
      room = s.requires.in_bounds;
      length_is = e;
      bytes = whole.bytes
          ∙ ap (λ (m : ℕ). take m s.args.out.now ++ (extreme s.args.d (shape_of s.args.shape.now) ++ drop o.length_of-n.result s.args.out.now)) start;
      meaning = is_extreme _ (small (goal.at.returns o).After-length_of-n) s.requires.accepted.sound;
    }
