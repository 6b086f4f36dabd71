-- `find_rows::step`: one row more each turn; past the end there is nothing, before the character and after it. Assumes
-- nothing.
use mathlib.Core.Path.{◌≡◌, refl, ◌∙◌, subst}
use Prim.Native.Nat.{ℕ, ◌-◌}
use native.Mathlib.Omega.{arith}
use borrow.Author.Tests.{not-true, not-false}
use Rattle.sets.specs.Set.{set_of}
use Rattle.rows.proofs.Rows.{put_row}
use Rattle.find_rows.proofs.Turns.{Stepping, step_none, step_more, step_moved, step_live, not_empty_some, empty_none}
use Rattle.find_rows.proofs.step.Goals as goal

pub loop-t-init : goal.loop-t-init
loop-t-init c = (c.told-rows, step_none _ _ _ _)

pub arrive-requires : goal.arrive-requires
arrive-requires c = record {
  short_mark = (c.requires.short_mark.0, let e = c.reach-end.ensures.0 in omega arith);
  fall_words = c.requires.fall_words;
}

pub add_if-next-requires : goal.add_if-next-requires
add_if-next-requires c = let f = c.requires.short_mark.0.few in let e = c.reach-end.ensures.0 in omega arith

pub loop-t-preserved : goal.loop-t-preserved
loop-t-preserved c =
    let l = c.loop-t in
    let f = c.requires.short_mark.0.few in
    let e = c.reach-end.ensures.0 in
    let long = l.invariant.0 in
    let step = l.invariant.1 in
    let put = put_row l.rows l.t c.stay-row.result (omega arith) in
    let empty = c.is_empty.ensures in (
      put.long ∙ long,
      step_more _ _ _ _ step refl (c.arrive.ensures _ step.under c.requires.short_mark.1) c.stay-row.ensures put
          (record { so = λ e. not_empty_some put.here (empty.not_so (not-true _ e)); not_so = λ e. empty_none put.here (empty.so (not-false _ e)) })
          c.add_if-next.ensures,
    )

pub returns : goal.returns
returns c =
    let l = c.loop-t in
    let reached = c.reach-end in
    let a = c.args in
    let alive = c.requires.short_mark.1 in
    let e : l.t ≡ reached.result = omega arith in
    let s = subst (λ (n : ℕ). Stepping a.mark.text.now (set_of a.ways.base) a.keep a.rows.now n l.rows (set_of l.last) l.next) e l.invariant.1 in
    record {
      moved = step_moved _ _ _ _ alive reached.ensures.0 reached.ensures.1 s;
      exactly = step_live _ _ _ _ alive reached.ensures.0 reached.ensures.1 s;
    }
