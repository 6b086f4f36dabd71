-- A lent shape and its rows: what the rows say of its positions, by the number of its blocks. Assumes nothing.
use mathlib.Core.Path.{◌≡◌, sym, ap, ◌∙◌, subst}
use mathlib.Core.List.{List}
use Prim.Native.Nat.{ℕ, ◌≤◌, ◌<◌}
use native.Mathlib.Omega.{arith}
use lib.ListN.{length, get_or, take}
use Rattle.bases.specs.Base.{Holds, Meets}
use Rattle.sets.specs.Set.{Exactly}
use Rattle.sets.proofs.Exact.{exactly_as}
use Rattle.shapes.specs.Shape.{Block, no_block, total, block_count}
use Rattle.shapes.specs.Lent.{shape_of, block_at}
use Rattle.shapes.proofs.Lent.{shape_length, shape_at}
use Rattle.walks.specs.Walk.{slot_at}
use Rattle.rows.specs.declared.LaidBlock.{LaidBlock}
use Rattle.rows.specs.Row.{zone_in, end_in, slot_in}
use Rattle.rows.specs.Steps.{InTurn, MeetsOne}
use Rattle.row_lay.specs.Lay.{Lay}
use Rattle.row_lay.proofs.Laid.{lay_in_turn, matched_meets, meets_matched}
use Rattle.walks.proofs.Fillings.{total_take}
use Rattle.pads.specs.Pad.{padded_at}
use Rattle.row_paths.specs.Rows.{Zones, Shares, BlockIn}
use Rattle.row_paths.proofs.Chars.{SlotRows, PaddedRows}
use Rattle.row_paths.proofs.Shapes.{block_in, zones_of, slot_rows, padded_block, padded_zones, padded_rows, padded_shares}

-- the same pairs of sets
matched_as : {A A' B : ℕ → ℕ} {k k' s q : ℕ} → ((j : ℕ) → j < k → A j ≡ A' j) → k ≡ k' → MeetsOne A B k s q → MeetsOne A' B k' s q
matched_as f e m = record {
  number = m.number;
  below = let b = m.below in omega arith;
  meets = let w = m.meets in record { shared = w.shared; first = w.first; second = subst (λ (v : ℕ). Holds v w.shared) (f m.number m.below) w.second };
  held = m.held;
}

base_at : (y : List ℕ) (j : ℕ) → j < block_count y → (block_at y j).base ≡ (get_or (shape_of y) j no_block).base
base_at y j h = ap (λ (b : Block). b.base) (sym (shape_at y j no_block h))

module _ (y : List ℕ) {layout : List LaidBlock} (l : Lay (shape_of y) layout) where
  mine_of : {base n : ℕ} → Exactly n (MeetsOne (λ j. (block_at y j).base) (slot_in layout) (block_count y) base) → Exactly n (λ q. Meets base (slot_at (shape_of y) q).base)
  mine_of {base} x = exactly_as
      (λ q m. matched_meets l base q (matched_as (base_at y) (sym (shape_length y)) m))
      (λ q m. matched_as (λ j h. sym (base_at y j (let c = shape_length y in omega arith))) (shape_length y) (meets_matched l base q m)) x

  pub in_turn_of : InTurn (zone_in layout) (end_in layout) (block_count y)
  in_turn_of = subst (InTurn (zone_in layout) (end_in layout)) (shape_length y) (lay_in_turn l)

  zones_in : total (shape_of y) ≤ 250 → Zones (slot_at (shape_of y)) (zone_in layout) (end_in layout) (block_count y)
  zones_in h = subst (Zones (slot_at (shape_of y)) (zone_in layout) (end_in layout)) (shape_length y) (zones_of l h)

-- the same, where k is the number of blocks
pub mine_at : (y : List ℕ) {k base n : ℕ} {layout : List LaidBlock} → k ≡ block_count y → Lay (shape_of y) layout → Exactly n (MeetsOne (λ j. (block_at y j).base) (slot_in layout) k base) → Exactly n (λ q. Meets base (slot_at (shape_of y) q).base)
mine_at y {base = base} {n = n} {layout = layout} d l x = mine_of y l (subst (λ (j : ℕ). Exactly n (MeetsOne (λ i. (block_at y i).base) (slot_in layout) j base)) d x)

pub zones_at : (y : List ℕ) {k : ℕ} {layout : List LaidBlock} → k ≡ block_count y → Lay (shape_of y) layout → total (shape_of y) ≤ 250 → Zones (slot_at (shape_of y)) (zone_in layout) (end_in layout) k
zones_at y {layout = layout} d l h = subst (Zones (slot_at (shape_of y)) (zone_in layout) (end_in layout)) (sym d) (zones_in y l h)

pub slot_rows_at : (y : List ℕ) {k : ℕ} {layout : List LaidBlock} → k ≡ block_count y → Lay (shape_of y) layout → SlotRows (slot_at (shape_of y)) (λ j. (block_at y j).base) (slot_in layout) k
slot_rows_at y d l = let r = slot_rows l in let n = shape_length y in record {
  base = λ j q h g. r.base j q (omega arith) g ∙ sym (base_at y j (omega arith));
  find = λ q c h. let f = r.find q c h in let b = f.1 in (f.0, omega arith, f.2);
}

pub block_at_lem : (x : List ℕ) (i p : ℕ) {b : Block} → i < block_count x → p ≡ total (take i (shape_of x)) → b ≡ block_at x i → BlockIn (slot_at (shape_of x)) p b
block_at_lem x i p {b} h e d = subst (λ (q : ℕ). BlockIn (slot_at (shape_of x)) q b) (sym e)
    (subst (BlockIn (slot_at (shape_of x)) (total (take i (shape_of x)))) (shape_at x i no_block h ∙ sym d) (block_in (shape_of x) i (let c = shape_length x in omega arith)))

-- ---- the same with padding behind the blocks

module _ (pad : ℕ) (y : List ℕ) {k : ℕ} (d : k ≡ block_count y) {layout : List LaidBlock} (l : Lay (shape_of y) layout) (short : total (shape_of y) ≤ 250) where
  pub padded_zones_at : Zones (padded_at pad (shape_of y)) (zone_in layout) (end_in layout) k
  padded_zones_at = padded_zones pad (shape_of y) short (zones_at y d l short)

  pub padded_rows_at : PaddedRows (padded_at pad (shape_of y)) (λ j. (block_at y j).base) (slot_in layout) k pad (total (shape_of y))
  padded_rows_at = padded_rows pad (shape_of y)
      (λ j q h x.
      let small : j < length (shape_of y) = let c = shape_length y in omega arith in
      let w = ((l.slot j small).so q x).1 in
      let t = total_take (shape_of y) j small in
      omega arith)
      (slot_rows_at y d l)

  -- where a base shares a character with the blocks, and with the padding
  pub shares_at : {base on waits m : ℕ} → m ≡ total (shape_of y) → Exactly on (MeetsOne (λ j. (block_at y j).base) (slot_in layout) k base) → Exactly waits (λ q. Meets base pad × (q ≡ m))
      → Shares (padded_at pad (shape_of y)) base on waits
  shares_at {base} {waits = waits} f x w = padded_shares pad (shape_of y) short (mine_at y d l x) (subst (λ (q : ℕ). Exactly waits (λ p. Meets base pad × (p ≡ q))) f w)

pub padded_block_at : (pad : ℕ) (x : List ℕ) (i p : ℕ) {b : Block} → i < block_count x → p ≡ total (take i (shape_of x)) → b ≡ block_at x i → BlockIn (padded_at pad (shape_of x)) p b
padded_block_at pad x i p {b} h e d = subst (λ (q : ℕ). BlockIn (padded_at pad (shape_of x)) q b) (sym e)
    (subst (BlockIn (padded_at pad (shape_of x)) (total (take i (shape_of x)))) (shape_at x i no_block h ∙ sym d) (padded_block pad (shape_of x) i (let c = shape_length x in omega arith)))
