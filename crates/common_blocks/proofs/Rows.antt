-- A block's rows from its end, one more at a time, each kept. Assumes nothing.
use mathlib.Core.Path.{◌≡◌, refl, sym, ◌∙◌, subst}
use mathlib.Core.Bool.{true, false}
use mathlib.Core.List.{List}
use mathlib.Core.Logic.{⊎_elim}
use Prim.Native.Nat.{ℕ, ◌+◌, ◌/◌, ◌≤◌, ◌<◌}
use native.Mathlib.Omega.{arith}
use lib.Bits.{bit_and, bit_or}
use lib.Dec.{leb}
use Rattle.plain.proofs.Plain.{lt_or_le}
use Rattle.sets.specs.Set.{Exactly}
use Rattle.sets.specs.declared.Set.{Set}
use Rattle.sets.proofs.Exact.{exactly_at}
use Rattle.shapes.specs.Shape.{Block}
use Rattle.pads.specs.Pad.{PadPath}
use Rattle.rows.specs.Row.{row_in, PutRow}
use Rattle.rows.specs.Steps.{Leads}
use Rattle.row_paths.proofs.Back.{row_before_lem, inwards_plain}
use Rattle.common_blocks.specs.Rows.{WheneverRoomy, BlockKept, RowsAfter}

-- The rows of the block b from its o-th character on, where s is the row at its end and r that at o.
abbrev pub KeptFrom : ℕ → List Set → ℕ → ℕ → Block → ℕ → (ℕ → Block) → (ℕ → Block) → ℕ → ℕ → Type 0
KeptFrom s rows o p b r X Y U W = Exactly s (λ j. PadPath X Y U W (p + b.upper) j)
    → ((h : ℕ) → o ≤ h → h < b.upper → Exactly (row_in rows (p + h)) (λ j. PadPath X Y U W (p + h) j)) × Exactly r (λ j. PadPath X Y U W (p + o) j)

module _ {Z E : ℕ → ℕ} {k mine p : ℕ} {b : Block} where
  -- at the block's end, no row of it is asked for
  pub rows_start : (rows : List Set) (s : ℕ) {o : ℕ} → o ≡ b.upper → WheneverRoomy Z E k mine p b (KeptFrom s rows o p b s)
  rows_start rows s e = record {
    holds = λ X Y U W z i fits y m x. (λ h l g. absurd (omega arith), subst (λ (q : ℕ). Exactly s (λ j. PadPath X Y U W (p + q) j)) (sym e) x);
  }

  -- the row one character earlier, put where it belongs
  pub rows_more : (s n row d step seeds r : ℕ) {o : ℕ} {w w' : List Set} → n ≡ o + 1 → o < b.upper → WheneverRoomy Z E k mine p b (KeptFrom s w n p b row)
      → d ≡ row / 2 → step ≡ bit_and d mine → (leb b.lower o ≡ true → seeds ≡ bit_or step s) → (leb b.lower o ≡ false → seeds ≡ step)
      → Exactly r (Leads Z E k seeds) → PutRow w (p + o) r w' → WheneverRoomy Z E k mine p b (KeptFrom s w' o p b r)
  rows_more s n row d step seeds r {o} {w} {w'} e small f de se on off ro u = record {
    holds = λ X Y U W z i fits y m x.
        let t = f.holds X Y U W z i fits y m x in
        let next = subst (λ (q : ℕ). Exactly row (λ j. PadPath X Y U W q j)) (let a : p + n ≡ p + o + 1 = omega arith in a) t.1 in
        let here : Exactly r (λ j. PadPath X Y U W (p + o) j) = row_before_lem z i fits o s row step seeds small x next (inwards_plain y row mine d m de se) on off ro in (
          λ h l g. ⊎_elim
              (λ c. exactly_at (u.kept (p + h) (λ q. omega arith)) (t.0 h (omega arith) g))
              (λ c. let same : o ≡ h = omega arith in subst (λ (q : ℕ). Exactly (row_in w' (p + q)) (λ j. PadPath X Y U W (p + q) j)) same (exactly_at u.here here))
              (lt_or_le o h),
          here,
        );
  }

  -- at its start, all are there
  pub rows_end : (s : ℕ) (rows : List Set) (r : ℕ) {o : ℕ} → o ≡ 0 → WheneverRoomy Z E k mine p b (KeptFrom s rows o p b r) → WheneverRoomy Z E k mine p b (BlockKept s rows p b r)
  rows_end s rows r {o} e f = record {
    holds = λ X Y U W z i fits y m x.
        let t = f.holds X Y U W z i fits y m x in
        (λ h g. t.0 h (omega arith) g, subst (λ (q : ℕ). Exactly r (λ j. PadPath X Y U W q j)) (let a : p + o ≡ p = omega arith in a) t.1);
  }

-- ---- rows from e on

pub after_none : {e : ℕ} (w : List Set) → RowsAfter e w w
after_none w = record { long = refl; kept = λ i l. refl }

pub after_more : {e q s : ℕ} {w w₁ w₂ : List Set} → q < e → RowsAfter e w w₁ → PutRow w₁ q s w₂ → RowsAfter e w w₂
after_more l f u = record { long = u.long ∙ f.long; kept = λ i h. u.kept i (λ z. omega arith) ∙ f.kept i h }
