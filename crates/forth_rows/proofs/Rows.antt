-- The rows of a block, one more position at a time, and of a shape, one more block at a time. Assumes nothing.
use mathlib.Core.Path.{◌≡◌, refl, sym, ◌∙◌, subst}
use mathlib.Core.Bool.{true, false}
use mathlib.Core.List.{List}
use mathlib.Core.Logic.{⊎_elim}
use Prim.Native.Nat.{ℕ, ◌+◌, ◌≤◌, ◌<◌}
use native.Mathlib.Omega.{arith}
use borrow.Author.Tests.{lt-leb, le-leb}
use lib.Bits.{bit_or}
use lib.Dec.{leb}
use Rattle.plain.proofs.Plain.{lt_or_le}
use Rattle.sets.specs.declared.Set.{Set}
use Rattle.sets.specs.Set.{Exactly}
use Rattle.sets.proofs.Exact.{exactly_at}
use Rattle.shapes.specs.Shape.{Block}
use Rattle.pads.specs.Pad.{PadPath}
use Rattle.rows.specs.Row.{row_in, PutRow}
use Rattle.rows.specs.Steps.{Leads, Together}
use Rattle.row_paths.specs.Rows.{Zones, Shares, Onwards, BlockIn, Entered}
use Rattle.row_paths.proofs.Reached.{reached_row}
use Rattle.row_paths.proofs.Forth.{slot_upper, enter_within, enter_next, comes_none, between_none, comes_more, between_more, between_same}
use Rattle.forth_rows.specs.Rows.{RowsTo, BlockRows, RowsKept, Follows}

-- ---- one block

pub rows_none : {X Y : ℕ → Block} {p : ℕ} {b : Block} (rows : List Set) {s n : ℕ} → n ≡ 0 → Exactly s (Entered X Y p) → RowsTo X Y p b 0 rows s n
rows_none rows z x = record { row = λ h l. absurd (omega arith); enter_is = comes_none x; stopped_is = between_none z }

-- the row of position o, put there, added to what has stopped if it counts, and led on by one character of both
pub rows_more : {X Y : ℕ → Block} {Z E : ℕ → ℕ} {k p : ℕ} {b : Block} {o : ℕ} {w w' : List Set} (mine waits r : ℕ) {enter stopped enter' stopped' : ℕ} → Zones Y Z E k → BlockIn X p b → Shares Y b.base mine waits
    → o < b.upper → RowsTo X Y p b o w enter stopped → Exactly r (Leads E Z k enter) → PutRow w (p + o) r w'
    → (leb b.lower o ≡ true → stopped' ≡ bit_or stopped r) → (leb b.lower o ≡ false → stopped' ≡ stopped)
    → Onwards r mine waits enter' → RowsTo X Y p b (o + 1) w' enter' stopped'
rows_more {X} {Y} {p = p} {b = b} {o = o} {w = w} {w' = w'} mine waits r {enter} {stopped} {enter'} {stopped'} z k m l t x u on off e = record {
  row = λ h g. ⊎_elim
      (λ c. subst (λ (v : ℕ). Exactly v (λ j. PadPath X Y (p + h) j 0 0)) (sym (u.kept (p + h) (λ q. omega arith))) (t.row h c))
      (λ c. let same : o ≡ h = omega arith in subst (λ (q : ℕ). Exactly (row_in w' (p + q)) (λ j. PadPath X Y (p + q) j 0 0)) same (exactly_at u.here here))
      (lt_or_le h o);
  enter_is = comes_more r o here (e.holds Y b.base m);
  stopped_is = ⊎_elim
      (λ c. exactly_at (off (lt-leb b.lower o c)) (between_same o c t.stopped_is))
      (λ c. between_more stopped r o c (on (le-leb b.lower o c)) t.stopped_is here)
      (lt_or_le o b.lower);
}
  where
    here : Exactly r (λ j. PadPath X Y (p + o) j 0 0)
    here = reached_row z (let a = slot_upper k o l in omega arith) (enter_within k l t.enter_is) x

pub rows_end : {X Y : ℕ → Block} {p : ℕ} {b : Block} {o n : ℕ} {rows : List Set} {enter stopped : ℕ} → o ≡ n → RowsTo X Y p b o rows enter stopped → RowsTo X Y p b n rows enter stopped
rows_end {X} {Y} {p} {b} {rows = rows} {enter = enter} {stopped = stopped} e t = subst (λ (x : ℕ). RowsTo X Y p b x rows enter stopped) e t

pub rows_block : {X Y : ℕ → Block} {p : ℕ} {b : Block} {rows : List Set} {enter stopped u : ℕ} → BlockIn X p b → RowsTo X Y p b b.upper rows enter stopped → u ≡ bit_or enter stopped → BlockRows X Y p b rows u
rows_block k t e = record { row = t.row; next_is = enter_next k e t.enter_is t.stopped_is }

-- ---- rows before p

pub before_none : {p : ℕ} (w : List Set) → RowsKept p w w
before_none w = record { long = refl; kept = λ i l. refl }

pub before_more : {p q s : ℕ} {w w₁ w₂ : List Set} → p ≤ q → RowsKept p w w₁ → PutRow w₁ q s w₂ → RowsKept p w w₂
before_more l f u = record { long = u.long ∙ f.long; kept = λ i h. u.kept i (λ z. omega arith) ∙ f.kept i h }

-- ---- in one word

pub put_as : {w w' : List Set} {j s t : ℕ} → s ≡ t → PutRow w j s w' → PutRow w j t w'
put_as {w} {w'} {j} e u = subst (λ (z : ℕ). PutRow w j z w') e u

pub together_as : {Z E : ℕ → ℕ} {k free free' stops stops' : ℕ} → free ≡ free' → stops ≡ stops' → Together Z E k free stops → Together Z E k free' stops'
together_as {Z} {E} {k} {free} {free'} {stops} {stops'} e d t = subst (λ (x : ℕ). Together Z E k x stops') e (subst (λ (x : ℕ). Together Z E k free x) d t)

pub shares_as : {Y : ℕ → Block} {base mine mine' waits waits' : ℕ} → mine' ≡ mine → waits' ≡ waits → Shares Y base mine' waits' → Shares Y base mine waits
shares_as {Y} {base} {mine} {mine'} {waits} {waits'} m w h = subst (λ (v : ℕ). Shares Y base v waits) m (subst (λ (v : ℕ). Shares Y base mine' v) w h)

pub follows_as : {Z E : ℕ → ℕ} {k p mine mine' waits waits' s s' r r' : ℕ} {b : Block} {rows : List Set} → mine' ≡ mine → waits' ≡ waits → s' ≡ s → r' ≡ r
    → Follows Z E k mine waits p b s (λ X Y. BlockRows X Y p b rows r) → Follows Z E k mine' waits' p b s' (λ X Y. BlockRows X Y p b rows r')
follows_as {p = p} {b = b} {rows = rows} m w s r f = record {
  holds = λ X Y z i h x.
      subst (λ (v : ℕ). BlockRows X Y p b rows v) (sym r) (f.holds X Y z i (shares_as m w h) (subst (λ (v : ℕ). Exactly v (Entered X Y p)) s x));
}
