-- The rows of an order's first pass, one more at a time. Assumes nothing.
use mathlib.Core.Path.{◌≡◌, sym, ap, ◌∙◌, subst}
use mathlib.Core.List.{List}
use Prim.Native.Nat.{ℕ, ◌+◌, ◌-◌, ◌*◌, ◌%◌, ◌^◌, ◌<◌}
use native.Mathlib.Omega.{arith}
use lib.Bits.{bit_and}
use lib.ListN.{length}
use Rattle.bases.specs.Base.{Empty}
use Rattle.sets.specs.declared.Set.{Set}
use Rattle.sets.specs.Set.{Exactly}
use Rattle.shapes.specs.Lent.{shape_of, block_at}
use Rattle.walks.specs.Walk.{slot_at}
use Rattle.rows.specs.declared.LaidBlock.{LaidBlock}
use Rattle.rows.specs.Row.{zone_in, end_in, slot_in, PutRow, table_size}
use Rattle.rows.specs.Steps.{Leads, MeetsOne}
use Rattle.rows.proofs.Rows.{rows_more}
use Rattle.order_guides.specs.Guide.{next_of}
use Rattle.row_paths.specs.Laid.{LaidOut}
use Rattle.order_rows.specs.Rows.{Matches}
use Rattle.row_paths.proofs.Laid.{laid_zones, laid_meets}
use Rattle.order_rows.proofs.Evens.{row_first, row_next, limit_empty}
use Rattle.order_forth.specs.Forth.{Forth, ForthTo}

pub same_mask : {A B : ℕ → ℕ} {n k s t : ℕ} → s ≡ t → Exactly n (MeetsOne A B k s) → Exactly n (MeetsOne A B k t)
same_mask {A} {B} {n} {k} e x = subst (λ (v : ℕ). Exactly n (MeetsOne A B k v)) e x

module _ {x : List ℕ} {y : List LaidBlock} (l : LaidOut x y) (text : List ℕ) where
  -- the row of the starts
  pub forth_first : {t r mask : ℕ} {w w' : List Set} → length w ≡ table_size → Exactly t (λ i. i ≡ 0) → Exactly r (Leads (end_in y) (zone_in y) (length y) t) → PutRow w 0 r w'
      → ForthTo x y text w' r mask 0
  forth_first {r = r} {w = w} long one v p =
      let first = row_first {T = next_of text} (laid_zones l l.long) one v in
      record {
        long = p.long ∙ long;
        within = omega arith;
        matched = record { row = λ q h. rows_more (λ (i v : ℕ). Exactly v (λ j. Matches (slot_at (shape_of x)) (next_of text) j i)) p (λ i h. absurd (omega arith)) first q (omega arith) };
        last = first;
        masked = λ h. absurd (omega arith);
      }

  -- one more
  pub forth_more : {row mask mask' a u r q n : ℕ} {w w' : List Set} → ForthTo x y text w row mask q → q < length text → n ≡ q + 1
      → Exactly mask' (MeetsOne (λ j. (block_at x j).base) (slot_in y) (length y) (next_of text q)) → a ≡ bit_and row mask' → u ≡ a * 2 % 2 ^ 256
      → Exactly r (Leads (end_in y) (zone_in y) (length y) u) → PutRow w n r w' → ForthTo x y text w' r mask' n
  forth_more {row} {mask} {mask'} {r = r} {q = q} {n = n} {w} {w'} t h at c ea eu v p =
      let next = row_next {T = next_of text} (laid_zones l l.long) row mask' q t.last (laid_meets l l.long c) ea eu v in
      let here = subst (λ (v : ℕ). Exactly r (λ i. Matches (slot_at (shape_of x)) (next_of text) i v)) (sym at) next in
      record {
        long = p.long ∙ t.long;
        within = omega arith;
        matched = record { row = λ i g. rows_more (λ (i v : ℕ). Exactly v (λ j. Matches (slot_at (shape_of x)) (next_of text) j i)) p (λ i h. t.matched.row i (omega arith)) here i (omega arith) };
        last = here;
        masked = λ h. same_mask {A = λ j. (block_at x j).base} {B = slot_in y} {k = length y} (let f : q ≡ n - 1 = omega arith in ap (next_of text) f) c;
      }

-- the last row is empty
pub forth_empty : {x text : List ℕ} {y : List LaidBlock} {row mask q : ℕ} {w : List Set} → ForthTo x y text w row mask q → Empty row → Forth x text w q
forth_empty t e = record { within = t.within; matched = t.matched; limit = λ h. limit_empty t.last e }
