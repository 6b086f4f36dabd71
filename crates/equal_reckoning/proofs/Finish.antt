-- The first pass says exactly which positions lead to the ends. Assumes nothing.
use mathlib.Core.Path.{◌≡◌, refl, sym, subst}
use mathlib.Core.Bool.{Bool}
use mathlib.Core.List.{List, [], ◌∷◌}
use mathlib.Core.Logic.{◌⊎◌, inl, inr}
use Prim.Native.Nat.{ℕ, zero, suc, ◌+◌, ◌-◌, ◌≤◌}
use native.Mathlib.Omega.{arith}
use lib.ListN.{get_or}
use Rattle.bases.specs.Base.{Meets}
use Rattle.plain.specs.Tells.{Tells}
use Rattle.shapes.specs.Shape.{Block}
use Rattle.walks.specs.Walk.{first, second, both, Path, stay, move, Bounded}
use Rattle.walks.proofs.Walks.{below, below_character, path_from}
use Rattle.equal_reckoning.specs.Equal.{at, finish, cell_before, last_cells, row_before, last_rows}
use Rattle.equal_reckoning.proofs.Tests.{tells_map, tells_or, tells_and, tells_eqb, tells_meet}

-- the cells of row i from j on, and the rows from i on
pub record CellsFrom (X Y : ℕ → Block) (U W i j : ℕ) (c : List Bool) : Type 0 where
  pub says : (k : ℕ) → j + k ≤ W → Tells (at c k) (Path X Y U W i (j + k))

pub record RowsFrom (X Y : ℕ → Block) (U W i : ℕ) (r : List (List Bool)) : Type 0 where
  pub says : (k j : ℕ) → i + k ≤ U → j ≤ W → Tells (at (get_or r k []) j) (Path X Y U W (i + k) j)

module _ {X Y : ℕ → Block} {U W : ℕ} (x : Bounded X U) (y : Bounded Y W) where
  -- the four ways
  Ways : ℕ → ℕ → Type 0
  Ways i j = ((i ≡ U) × (j ≡ W)) ⊎ ((((X i).lower ≡ 0) × Path X Y U W (i + (X i).upper) j)
      ⊎ ((((Y j).lower ≡ 0) × Path X Y U W i (j + (Y j).upper)) ⊎ (Meets (X i).base (Y j).base × Path X Y U W (i + 1) (j + 1))))

  to_path : {i j : ℕ} → Ways i j → Path X Y U W i j
  unfolding Ways
  to_path (inl e) = stay e.0 e.1
  to_path (inr (inl p)) = move (first p.0 refl refl) p.1
  to_path (inr (inr (inl p))) = move (second p.0 refl refl) p.1
  to_path (inr (inr (inr p))) = move (both p.0 refl refl) p.1

  of_path : {i j : ℕ} → Path X Y U W i j → Ways i j
  unfolding Ways
  of_path (stay e f) = inl (e, f)
  of_path (move (first l e f) p) = inr (inl (l, path_from (sym e) (sym f) p))
  of_path (move (second l e f) p) = inr (inr (inl (l, path_from (sym e) (sym f) p)))
  of_path (move (both l e f) p) = inr (inr (inr (l, path_from (sym e) (sym f) p)))

  module _ {i j : ℕ} {r : List (List Bool)} {c : List Bool} (h : i ≤ U) (g : j ≤ W) (rows : RowsFrom X Y U W (i + 1) r) (cells : CellsFrom X Y U W i (j + 1) c) where
    first_says : (X i).lower ≡ 0 → Tells (at (get_or r ((X i).upper - 1) []) j) (Path X Y U W (i + (X i).upper) j)
    first_says l =
        let s = below x i h l in
        let room = x.room i s in
        let within = x.within i s in
        subst (λ (z : ℕ). Tells (at (get_or r ((X i).upper - 1) []) j) (Path X Y U W z j)) (let e : i + 1 + ((X i).upper - 1) ≡ i + (X i).upper = omega arith in e)
        (rows.says ((X i).upper - 1) j (omega arith) g)

    second_says : (Y j).lower ≡ 0 → Tells (at c ((Y j).upper - 1)) (Path X Y U W i (j + (Y j).upper))
    second_says l =
        let s = below y j g l in
        let room = y.room j s in
        let within = y.within j s in
        subst (λ (z : ℕ). Tells (at c ((Y j).upper - 1)) (Path X Y U W i z)) (let e : j + 1 + ((Y j).upper - 1) ≡ j + (Y j).upper = omega arith in e)
        (cells.says ((Y j).upper - 1) (omega arith))

    both_says : Meets (X i).base (Y j).base → Tells (at (get_or r 0 []) (j + 1)) (Path X Y U W (i + 1) (j + 1))
    both_says m =
        let s = below_character x i m.shared h m.first in
        let t = below_character y j m.shared g m.second in
        subst (λ (z : ℕ). Tells (at (get_or r 0 []) (j + 1)) (Path X Y U W z (j + 1))) (let e : i + 1 + 0 ≡ i + 1 = omega arith in e)
        (rows.says 0 (j + 1) (omega arith) (omega arith))

    finish_says : Tells (finish X Y U W i j r c) (Path X Y U W i j)
    unfolding finish Ways
    finish_says = tells_map to_path of_path
        (tells_or (tells_and _ (tells_eqb i U) (λ e. tells_eqb j W))
        (tells_or (tells_and _ (tells_eqb (X i).lower 0) first_says)
        (tells_or (tells_and _ (tells_eqb (Y j).lower 0) second_says) (tells_and _ (tells_meet (X i).base (Y j).base) both_says))))

  cells_next : {i j : ℕ} {v : Bool} {c : List Bool} → Tells v (Path X Y U W i j) → CellsFrom X Y U W i (j + 1) c → CellsFrom X Y U W i j (v ∷ c)
  unfolding at
  cells_next {i} {j} {v} {c} t s = record { says = says }
    where
      says : (k : ℕ) → j + k ≤ W → Tells (at (v ∷ c) k) (Path X Y U W i (j + k))
      says zero h = subst (λ (z : ℕ). Tells v (Path X Y U W i z)) (let e : j ≡ j + 0 = omega arith in e) t
      says (suc k) h = subst (λ (z : ℕ). Tells (at c k) (Path X Y U W i z)) (let e : j + 1 + k ≡ j + suc k = omega arith in e) (s.says k (omega arith))

  cells_at : {i j k : ℕ} {c : List Bool} → j ≡ k → CellsFrom X Y U W i j c → CellsFrom X Y U W i k c
  cells_at {i} {c = c} e s = subst (λ (z : ℕ). CellsFrom X Y U W i z c) e s

  last_cells_lem : {i : ℕ} {r : List (List Bool)} → i ≤ U → RowsFrom X Y U W (i + 1) r → (t : ℕ) → t ≤ W + 1 → CellsFrom X Y U W i (W + 1 - t) (last_cells X Y U W i r t)
  unfolding last_cells cell_before
  last_cells_lem {i} {r} h rows zero l = record { says = λ k g. absurd (omega arith) }
  last_cells_lem {i} {r} h rows (suc t) l =
      let c = cells_at {k = W - t + 1} (omega arith) (last_cells_lem h rows t (omega arith)) in
      cells_at {j = W - t} (omega arith) (cells_next (finish_says h (omega arith) rows c) c)

  rows_next : {i : ℕ} {c : List Bool} {r : List (List Bool)} → CellsFrom X Y U W i 0 c → RowsFrom X Y U W (i + 1) r → RowsFrom X Y U W i (c ∷ r)
  rows_next {i} {c} {r} s t = record { says = says }
    where
      says : (k j : ℕ) → i + k ≤ U → j ≤ W → Tells (at (get_or (c ∷ r) k []) j) (Path X Y U W (i + k) j)
      says zero j h g = subst (λ (z : ℕ). Tells (at c j) (Path X Y U W (i + 0) z)) (let e : 0 + j ≡ j = omega arith in e)
          (subst (λ (z : ℕ). Tells (at c j) (Path X Y U W z (0 + j))) (let e : i ≡ i + 0 = omega arith in e) (s.says j (omega arith)))
      says (suc k) j h g = subst (λ (z : ℕ). Tells (at (get_or r k []) j) (Path X Y U W z j)) (let e : i + 1 + k ≡ i + suc k = omega arith in e) (t.says k j (omega arith) g)

  rows_at : {i k : ℕ} {r : List (List Bool)} → i ≡ k → RowsFrom X Y U W i r → RowsFrom X Y U W k r
  rows_at {r = r} e s = subst (λ (z : ℕ). RowsFrom X Y U W z r) e s

  pub last_rows_lem : (t : ℕ) → t ≤ U + 1 → RowsFrom X Y U W (U + 1 - t) (last_rows X Y U W t)
  unfolding last_rows row_before
  last_rows_lem zero l = record { says = λ k j h. absurd (omega arith) }
  last_rows_lem (suc t) l =
      let r = rows_at {k = U - t + 1} (omega arith) (last_rows_lem t (omega arith)) in
      rows_at {i = U - t} (omega arith) (rows_next (cells_at (omega arith) (last_cells_lem (omega arith) r (suc W) (omega arith))) r)
