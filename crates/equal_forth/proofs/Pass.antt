-- The first pass over a shape beside another that is laid out in rows, one more block at a time. Assumes nothing.
use mathlib.Core.Path.{◌≡◌, refl, sym, ap, ◌∙◌, subst}
use mathlib.Core.List.{List}
use mathlib.Core.Logic.{⊎_elim}
use Prim.Native.Nat.{ℕ, ◌+◌, ◌-◌, ◌≤◌, ◌<◌}
use native.Mathlib.Omega.{arith}
use lib.ListN.{take}
use Rattle.bases.specs.Base.{Meets}
use Rattle.plain.proofs.Plain.{lt_or_le}
use Rattle.sets.specs.declared.Set.{Set}
use Rattle.sets.specs.Set.{Exactly}
use Rattle.sets.proofs.Exact.{exactly_as, exactly_at}
use Rattle.shapes.specs.Shape.{Block, total, block_count}
use Rattle.shapes.specs.Lent.{shape_of, block_at}
use Rattle.walks.specs.Walk.{slot_at}
use Rattle.pads.specs.Pad.{PadPath, padded_at}
use Rattle.pads.proofs.Paths.{padded_end, ended}
use Rattle.rows.specs.Row.{row_in, PutRow}
use Rattle.pad_rows.specs.Alone.{Trails}
use Rattle.rows.proofs.Rows.{rows_more}
use Rattle.row_lay.proofs.Laid.{total_zero, total_more, total_all}
use Rattle.row_paths.specs.Rows.{Zones, Shares, Entered, start, taken}
use Rattle.row_paths.proofs.Reached.{reached_last}
use Rattle.row_paths.proofs.Lent.{padded_block_at}
use Rattle.row_paths.proofs.Shapes.{padded_free}
use Rattle.equal_forth.specs.Forth.{PassTo, Pass}
use Rattle.forth_rows.specs.Rows.{BlockRows, Follows, RowsKept}

-- ---- the pass

-- the starts are entered, and nothing else at position 0
entered_first : (pad : ℕ) (X Y : List Block) (j : ℕ) → Entered (padded_at pad X) (padded_at pad Y) 0 j → j ≡ 0
entered_first pad X Y j (start e f) = f
entered_first pad X Y j (Entered.ended h l e p) = let r = (ended pad X).room h (padded_free pad X h l) in absurd (omega arith)
entered_first pad X Y j (taken h l e f r m p) = absurd (omega arith)

pub pass_none : (pad : ℕ) {x y : List ℕ} {mines rows : List Set} {s : ℕ} → Exactly s (λ e. e ≡ 0) → PassTo pad x y 0 0 mines rows s
pass_none pad {x} {y} v = record {
  place = sym (total_zero (shape_of x));
  mine = λ h l. absurd (omega arith);
  row = λ h l. absurd (omega arith);
  enter = exactly_as (λ j e. start refl e) (entered_first pad (shape_of x) (shape_of y)) v;
}

pub pass_more : {pad : ℕ} {x y : List ℕ} {mines mines' rows rows' : List Set} {Z E : ℕ → ℕ} {k i p s r mine waits : ℕ} {b : Block} → i < block_count x → b ≡ block_at x i → Zones (padded_at pad (shape_of y)) Z E k
    → Exactly mine (λ q. Meets b.base (slot_at (shape_of y) q).base) → Shares (padded_at pad (shape_of y)) b.base mine waits → PassTo pad x y i p mines rows s → PutRow mines i mine mines'
    → Follows Z E k mine waits p b s (λ X Y. BlockRows X Y p b rows' r) → RowsKept p rows rows' → PassTo pad x y (i + 1) (p + b.upper) mines' rows' r
pass_more {pad} {x} {y} {mines} {mines'} {rows} {rows'} {i = i} {p = p} {s = s} {mine = mine} {b = b} l d z m v t u f w =
    let got : BlockRows (padded_at pad (shape_of x)) (padded_at pad (shape_of y)) p b rows' _ =
    f.holds (padded_at pad (shape_of x)) (padded_at pad (shape_of y)) z (padded_block_at pad x i p l t.place d) v t.enter in
    record {
      place = (let e : p + b.upper ≡ total (take i (shape_of x)) + b.upper = let g = t.place in omega arith in e)
          ∙ ap (λ (c : Block). total (take i (shape_of x)) + c.upper) d ∙ sym (total_more x i l);
      mine = rows_more (λ (h v : ℕ). Exactly v (λ q. Meets (block_at x h).base (slot_at (shape_of y) q).base)) u t.mine
          (subst (λ (c : Block). Exactly mine (λ q. Meets c.base (slot_at (shape_of y) q).base)) d m);
      row = λ h g. ⊎_elim
          (λ c. exactly_at (w.kept h c) (t.row h c))
          (λ c.
          let at : h ≡ p + (h - p) = omega arith in
          subst (λ (q : ℕ). Exactly (row_in rows' q) (λ j. PadPath (padded_at pad (shape_of x)) (padded_at pad (shape_of y)) q j 0 0)) (sym at) (got.row (h - p) (omega arith)))
          (lt_or_le h p);
      enter = got.next_is;
    }

pub pass_all : {pad : ℕ} {x y : List ℕ} {mines rows rows' : List Set} {i p s r : ℕ} → block_count x ≤ i → PassTo pad x y i p mines rows s
    → Exactly r (Trails (padded_at pad (shape_of y)) pad s) → PutRow rows p r rows' → Pass pad x y mines rows' r
pass_all {pad} {x} {y} {mines} {rows} {rows'} {i = i} {p = p} {s = s} {r = r} l t v u =
    let X : ℕ → Block = padded_at pad (shape_of x) in
    let Y : ℕ → Block = padded_at pad (shape_of y) in
    let at : p ≡ total (shape_of x) = t.place ∙ total_all x i l in
    let last : Exactly r (λ j. PadPath X Y (total (shape_of x)) j 0 0) = reached_last (ended pad (shape_of x)) (ap (λ (b : Block). b.base) (padded_end pad (shape_of x)))
    (subst (λ (q : ℕ). Exactly s (Entered X Y q)) at t.enter)
    (exactly_as (λ j w. (w.from, w.held, w.along)) (λ j w. record { from = w.0; held = w.1; along = w.2 }) v) in
    record {
      mine = λ h g. t.mine h (omega arith);
      row = λ h g. rows_more (λ (h v : ℕ). Exactly v (λ j. PadPath X Y h j 0 0)) u t.row (subst (λ (q : ℕ). Exactly r (λ j. PadPath X Y q j 0 0)) (sym at) last) h (omega arith);
      last_is = last;
    }
