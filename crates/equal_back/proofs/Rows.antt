-- A block's rows from its end, one more at a time. Assumes nothing.
use mathlib.Core.Path.{◌≡◌, sym, subst}
use mathlib.Core.List.{List}
use Prim.Native.Nat.{ℕ, ◌+◌, ◌<◌}
use native.Mathlib.Omega.{arith}
use Rattle.sets.specs.declared.Set.{Set}
use Rattle.sets.specs.Set.{set_of, Exactly}
use Rattle.shapes.specs.Shape.{Block}
use Rattle.pads.specs.Pad.{PadPath}
use Rattle.rows.specs.Row.{row_in}
use Rattle.forth_rows.proofs.Rows.{shares_as}
use Rattle.back_rows.specs.declared.Gathered.{Gathered}
use Rattle.back_rows.specs.Rows.{GatheredAt, Whenever, RowBack, RowsBack, BlockBack}

module _ {Z E : ℕ → ℕ} {k mine waits p : ℕ} {b : Block} where
  pub rows_start : (rows : List Set) {o stop : ℕ} (g : Gathered) → o ≡ b.upper → stop ≡ set_of g.row → Whenever Z E k mine waits p b (RowsBack rows stop o p b g g)
  rows_start rows g e d = record {
    holds = λ X Y U W z i fits m row x. (
      subst (λ (v : ℕ). Exactly v (λ j. PadPath X Y U W (p + b.upper) j)) (sym d) x.row_is,
      subst (λ (q : ℕ). GatheredAt X Y U W (p + q) (p + b.upper) g) (sym e) x,
    );
  }

  pub rows_more : (rows : List Set) (n : ℕ) {o f stop : ℕ} (g got r : Gathered) → n ≡ o + 1 → o < b.upper → f ≡ row_in rows (p + o) → Whenever Z E k mine waits p b (RowsBack rows stop n p b g got)
      → Whenever Z E k mine waits p b (RowBack f stop o p b got r) → Whenever Z E k mine waits p b (RowsBack rows stop o p b g r)
  rows_more rows n {o} {f} {stop} g got r d l e w v = record {
    holds = λ X Y U W z i fits m row x.
        let t = w.holds X Y U W z i fits m row x in (
          t.0,
          v.holds X Y U W z i fits m l (subst (λ (q : ℕ). Exactly q (λ j. PadPath X Y (p + o) j 0 0)) (sym e) (row o l)) t.0
              (subst (λ (q : ℕ). GatheredAt X Y U W q (p + b.upper) got) (let a : p + n ≡ p + o + 1 = omega arith in a) t.1),
        );
  }

  pub rows_end : (rows : List Set) {o stop : ℕ} (g r : Gathered) → o ≡ 0 → Whenever Z E k mine waits p b (RowsBack rows stop o p b g r) → Whenever Z E k mine waits p b (BlockBack rows p b g r)
  rows_end rows {o} g r e w = record {
    holds = λ X Y U W z i fits m row x. subst (λ (q : ℕ). GatheredAt X Y U W q (p + b.upper) r) (let a : p + o ≡ p = omega arith in a) (w.holds X Y U W z i fits m row x).1;
  }

  -- by whatever stands for the sets
  pub row_as : (f o : ℕ) {mine' waits' stop stop' : ℕ} (got r : Gathered) → mine' ≡ mine → waits' ≡ waits → stop' ≡ stop
      → Whenever Z E k mine waits p b (RowBack f stop o p b got r) → Whenever Z E k mine' waits' p b (RowBack f stop' o p b got r)
  row_as f o got r m w s v = record {
    holds = λ X Y U W z i fits h. subst (λ (t : ℕ). RowBack f t o p b got r X Y U W) (sym s) (v.holds X Y U W z i fits (shares_as m w h));
  }
