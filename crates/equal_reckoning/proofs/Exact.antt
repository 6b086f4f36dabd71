-- The function is exact: its outcome is what narrowing under equality means. Assumes nothing.
use mathlib.Core.Path.{◌≡◌, refl, sym, ap, ◌∙◌, subst, subst₂}
use mathlib.Core.Bool.{Bool, true, false}
use mathlib.Core.List.{List, [], ◌++◌}
use Prim.Native.Nat.{ℕ, suc, ◌+◌, ◌-◌, ◌≤◌, ◌<◌}
use native.Mathlib.Omega.{arith}
use borrow.Author.Tests.{eqb-true, eqb-false}
use lib.Dec.{eqb, ltb}
use lib.ListN.{length, get_or, take}
use Rattle.plain.specs.Tells.{Tells}
use Rattle.plain.specs.All.{All}
use Rattle.shapes.specs.Shape.{Block, Sound, total, no_block}
use Rattle.hulls.specs.Hull.{Pairs, NarrowsTo, to_none, to_shapes}
use Rattle.hulls.proofs.Hull.{same_rule, same_none}
use Rattle.walks.specs.Walk.{slot_at, Path, Bounded, Same}
use Rattle.walks.proofs.Walks.{turn_path}
use Rattle.walks.proofs.Laid.{bounded}
use Rattle.pads.specs.Pad.{PadPath, padded_at}
use Rattle.pads.specs.Collect.{Ends, Collected}
use Rattle.pads.proofs.But.{but_nothing, nothing_but}
use Rattle.pads.proofs.Cut.{Place}
use Rattle.pads.proofs.Paths.{path_pad, pad_path, slots_nothing, slot_roomy}
use Rattle.pads.proofs.Tight.{place, equal_none, equal_hull_lem, some_first}
use Rattle.plain.proofs.Tells.{tells_so}
use Rattle.equal_reckoning.specs.Equal.{and, at, listed, last_rows, froms, sign, signs, table_of, cell_of, block_told, blocks_told, outcome, from_table, equal_hull}
use Rattle.equal_reckoning.proofs.Tests.{tells_and, tells_as, tells_ltb, listed_at}
use Rattle.equal_reckoning.proofs.Finish.{RowsFrom, last_rows_lem}
use Rattle.equal_reckoning.proofs.Reach.{RowsTo, first_rows_lem}
use Rattle.equal_reckoning.proofs.Gather.{Told, turn_told, block_says, blocks_size, blocks_at}

-- ---- the table

cell_sign : (U W : ℕ) (b f : List (List Bool)) (i j : ℕ) → i ≤ U → j ≤ W → cell_of (signs U W b f) i j ≡ sign (at (get_or b i []) j) (at (get_or f (U - i) []) (W - j))
unfolding cell_of signs
cell_sign U W b f i j h g =
    ap (λ (l : List ℕ). get_or l j 0) (listed_at (λ i. listed (λ j. sign (at (get_or b i []) j) (at (get_or f (U - i) []) (W - j))) 0 (suc W)) [] 0 (suc U) i (omega arith))
    ∙ listed_at (λ j. sign (at (get_or b (0 + i) []) j) (at (get_or f (U - (0 + i)) []) (W - j))) 0 0 (suc W) j (omega arith)
    ∙ ap (λ (k : ℕ). sign (at (get_or b k []) (0 + j)) (at (get_or f (U - k) []) (W - (0 + j)))) (let e : 0 + i ≡ i = omega arith in e)
    ∙ ap (λ (k : ℕ). sign (at (get_or b i []) k) (at (get_or f (U - i) []) (W - k))) (let e : 0 + j ≡ j = omega arith in e)

-- what a sign tells of the two passes
sign_live : (b f : Bool) → ltb 0 (sign b f) ≡ b
unfolding sign
sign_live true true = refl
sign_live true false = refl
sign_live false f = refl

sign_both : (b f : Bool) → eqb (sign b f) 2 ≡ and b f
unfolding sign and
sign_both true true = refl
sign_both true false = refl
sign_both false f = refl

module _ {X Y : ℕ → Block} {U W : ℕ} {b f : List (List Bool)} (rb : RowsFrom X Y U W 0 b) (rf : RowsTo X Y W (suc U) f) where
  finishing : (i j : ℕ) → i ≤ U → j ≤ W → Tells (at (get_or b i []) j) (Path X Y U W i j)
  finishing i j h g = subst (λ (z : ℕ). Tells (at (get_or b i []) j) (Path X Y U W z j)) (let e : 0 + i ≡ i = omega arith in e) (rb.says i j (omega arith) g)

  reaching : (i j : ℕ) → i ≤ U → j ≤ W → Tells (at (get_or f (U - i) []) (W - j)) (Path X Y i j 0 0)
  reaching i j h g = subst (λ (z : ℕ). Tells (at (get_or f z []) (W - j)) (Path X Y i j 0 0)) (let e : suc U - 1 - i ≡ U - i = omega arith in e) (rf.says i j (omega arith) g)

  told_signs : Told X Y U W (cell_of (signs U W b f))
  told_signs = record {
    live = λ i j h g. tells_as (ap (λ (v : ℕ). ltb 0 v) (cell_sign U W b f i j h g) ∙ sign_live _ _) (finishing i j h g);
    marked = λ i j h g. tells_as (ap (λ (v : ℕ). eqb v 2) (cell_sign U W b f i j h g) ∙ sign_both _ _) (tells_and _ (finishing i j h g) (λ z. reaching i j h g));
  }

pub told_table : {X Y : ℕ → Block} {U W : ℕ} → Bounded X U → Bounded Y W → Told X Y U W (cell_of (table_of X Y U W))
unfolding table_of
told_table {X} {Y} {U} {W} x y = told_signs
    (subst (λ (z : ℕ). RowsFrom X Y U W z (last_rows X Y U W (suc U))) (let e : U + 1 - suc U ≡ 0 = omega arith in e) (last_rows_lem x y (suc U) (omega arith)))
    (first_rows_lem x y (listed (λ j. froms Y j j) 0 (suc W))
    (λ j h. listed_at (λ j. froms Y j j) [] 0 (suc W) j (omega arith) ∙ ap (λ (k : ℕ). froms Y k k) (let e : 0 + j ≡ j = omega arith in e)) (suc U))

-- ---- the outcome

-- with no padding, what is said of the slots with padding behind them is said of the slots
module _ (P : (ℕ → Block) → (ℕ → Block) → Type 0) (X Y : List Block) where
  bare : P (padded_at 0 X) (padded_at 0 Y) → P (slot_at X) (slot_at Y)
  bare p = subst₂ P (slots_nothing X) (slots_nothing Y) p

  padded : P (slot_at X) (slot_at Y) → P (padded_at 0 X) (padded_at 0 Y)
  padded p = subst₂ P (sym (slots_nothing X)) (sym (slots_nothing Y)) p

through : (X Y : List Block) → Path (slot_at X) (slot_at Y) (total X) (total Y) 0 0 → PadPath (padded_at 0 X) (padded_at 0 Y) (total X) (total Y) 0 0
through X Y p = padded (λ x y. PadPath x y (total X) (total Y) 0 0) X Y (path_pad (slot_roomy X) (slot_roomy Y) p)

module _ (X Y : List Block) (gx : All Sound X) (gy : All Sound Y) {T : ℕ → ℕ → ℕ} (t : Told (slot_at X) (slot_at Y) (total X) (total Y) T) where
  side : (p : Path (slot_at X) (slot_at Y) (total X) (total Y) 0 0) (i : ℕ) → i < length X
      → Collected (padded_at 0 X) (padded_at 0 Y) (total X) (total Y) (total (take i X)) (get_or X i no_block) (get_or (blocks_told T (slot_at Y) (total Y) 0 X) i no_block)
  side p i h = subst (Collected (padded_at 0 X) (padded_at 0 Y) (total X) (total Y) (total (take i X)) (get_or X i no_block)) (sym (blocks_at T (slot_at Y) (total Y) 0 (total (take i X)) X i h (omega arith)))
      (padded (λ x y. Collected x y (total X) (total Y) (total (take i X)) (get_or X i no_block) (block_told T (slot_at Y) (total Y) (total (take i X)) (get_or X i no_block))) X Y
      (block_says (bare (λ x y. Place x y (total X) (total Y) (total (take i X)) (get_or X i no_block)) X Y (place 0 X Y gx i h)) (slot_roomy X) (slot_roomy Y) (bounded Y) t
      (bare (λ x y. Ends x y (total X) (total Y) (total (take i X)) (get_or X i no_block) some.0) X Y some.1)))
    where
      some : (n : ℕ) × Ends (padded_at 0 X) (padded_at 0 Y) (total X) (total Y) (total (take i X)) (get_or X i no_block) n
      some = some_first 0 X Y gx gy (through X Y p) i h

module _ (X Y : List Block) (gx : All Sound X) (gy : All Sound Y) where
  exact_table : (t : List (List ℕ)) → Told (slot_at X) (slot_at Y) (total X) (total Y) (cell_of t) → NarrowsTo (Pairs Same (length X)) (X ++ Y) (from_table X Y t)
  unfolding from_table outcome
  exact_table t k = go (eqb (cell_of t 0 0) 0) refl
    where
      go : (v : Bool) → eqb (cell_of t 0 0) 0 ≡ v
          → NarrowsTo (Pairs Same (length X)) (X ++ Y) (outcome v (blocks_told (cell_of t) (slot_at Y) (total Y) 0 X ++ blocks_told (λ i j. cell_of t j i) (slot_at X) (total X) 0 Y))
      go true e = to_none (same_none (λ f _. nothing_but) (equal_none 0 X Y gx gy (λ p.
          let q = pad_path (slot_roomy X) (slot_roomy Y) (bare (λ x y. PadPath x y (total X) (total Y) 0 0) X Y p) in
          let z = eqb-true (cell_of t 0 0) 0 e in
          let l = (tells_ltb 0 (cell_of t 0 0)).so (tells_so (k.live 0 0 (omega arith) (omega arith)) q) in
          omega arith)))
      go false e =
          let z = eqb-false (cell_of t 0 0) 0 e in
          let p = (k.live 0 0 (omega arith) (omega arith)).so (tells_so (tells_ltb 0 (cell_of t 0 0)) (omega arith)) in
          to_shapes (same_rule (λ f _. but_nothing) (λ f _. nothing_but)
          (equal_hull_lem 0 X Y gx gy (blocks_told (cell_of t) (slot_at Y) (total Y) 0 X) (blocks_told (λ i j. cell_of t j i) (slot_at X) (total X) 0 Y) (through X Y p)
          (blocks_size (cell_of t) (slot_at Y) (total Y) 0 X) (blocks_size (λ i j. cell_of t j i) (slot_at X) (total X) 0 Y)
          (side X Y gx gy k p) (side Y X gy gx (turn_told k) (turn_path p))))

  -- the function is exact
  pub equal_exact : NarrowsTo (Pairs Same (length X)) (X ++ Y) (equal_hull X Y)
  unfolding equal_hull
  equal_exact = exact_table (table_of (slot_at X) (slot_at Y) (total X) (total Y)) (told_table (bounded X) (bounded Y))
