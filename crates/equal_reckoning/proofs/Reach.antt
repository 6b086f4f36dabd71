-- The second pass says exactly which positions the starts lead to. Assumes nothing.
use mathlib.Core.Path.{◌≡◌, refl, sym, subst}
use mathlib.Core.Bool.{Bool, true, false, false≢true}
use mathlib.Core.List.{List, [], ◌∷◌}
use mathlib.Core.Logic.{◌⊎◌, inl, inr, ⊎_elim}
use Prim.Native.Nat.{ℕ, zero, suc, ◌+◌, ◌-◌, ◌≤◌, ◌<◌}
use native.Mathlib.Omega.{arith}
use lib.ListN.{get_or}
use Rattle.bases.specs.Base.{Meets}
use Rattle.plain.specs.Tells.{Tells}
use Rattle.plain.proofs.Plain.{lt_or_le}
use Rattle.shapes.specs.Shape.{Block}
use Rattle.walks.specs.Walk.{Move, first, second, both, Path, stay, move, Bounded}
use Rattle.walks.proofs.Walks.{below, path_then, text_of, ends_within}
use Rattle.equal_reckoning.specs.Equal.{at, from_if, froms, any_in, reach, cell_after, first_cells, row_after, first_rows}
use Rattle.equal_reckoning.proofs.Tests.{tells_map, tells_or, tells_and, tells_eqb, tells_ltb, tells_meet, Under, under_to, under_of}

-- ---- the positions from which a run ends at i

-- a run can end at i from position k, with P
EndsBy : (ℕ → Block) → (ℕ → Type 0) → ℕ → ℕ → Type 0
EndsBy X P i k = (((X k).lower ≡ 0) × (i ≡ k + (X k).upper)) × P k

any_if : (X : ℕ → Block) (P : ℕ → Type 0) (f : ℕ → Bool) (i n : ℕ) (l : List ℕ) {t : Bool} → Tells t (((X n).lower ≡ 0) × (i ≡ n + (X n).upper))
    → Tells (f n) (P n) → Tells (any_in f l) (Under (EndsBy X P i) n) → Tells (any_in f (from_if t n l)) (Under (EndsBy X P i) (suc n))
unfolding any_in from_if EndsBy
any_if X P f i n l {t = true} s g u = tells_map (under_to (EndsBy X P i)) (under_of (EndsBy X P i)) (tells_or (tells_map (λ p. (s.so refl, p)) (λ p. p.1) g) u)
any_if X P f i n l {t = false} s g u = tells_map
    (λ x. under_to (EndsBy X P i) (inr x))
    (λ x. ⊎_elim (λ z. absurd (s.not_so refl z.0)) (λ z. z) (under_of (EndsBy X P i) x))
    u

any_froms : (X : ℕ → Block) (P : ℕ → Type 0) (f : ℕ → Bool) (i n : ℕ) → ((k : ℕ) → k < n → Tells (f k) (P k)) → Tells (any_in f (froms X i n)) (Under (EndsBy X P i) n)
unfolding froms any_in
any_froms X P f i zero h = record { so = λ e. absurd (false≢true e); not_so = λ e x. let l = x.1 in omega arith }
any_froms X P f i (suc n) h = any_if X P f i n (froms X i n) (tells_and _ (tells_eqb (X n).lower 0) (λ z. tells_eqb i (n + (X n).upper)))
    (h n (omega arith)) (any_froms X P f i n (λ k l. h k (omega arith)))

-- ---- the last move of a path

pub last_move : {X Y : ℕ → Block} {m n i j : ℕ} → Path X Y m n i j → ((i ≡ m) × (j ≡ n)) ⊎ ((a : ℕ) × (b : ℕ) × Path X Y a b i j × Move X Y a b m n)
last_move (stay e f) = inl (e, f)
last_move {X} {Y} {n = n} {i = i} {j = j} (move {a = a} {b = b} s p) = ⊎_elim
    (λ z. inr (i, j, stay refl refl, subst (λ (u : ℕ). Move X Y i j u n) z.0 (subst (λ (u : ℕ). Move X Y i j a u) z.1 s)))
    (λ z. inr (z.0, z.1, move s z.2, z.3))
    (last_move p)

-- the cells of row i before j, and the rows before i, the last first
pub record CellsTo (X Y : ℕ → Block) (i j : ℕ) (c : List Bool) : Type 0 where
  pub says : (b : ℕ) → b < j → Tells (at c (j - 1 - b)) (Path X Y i b 0 0)

pub record RowsTo (X Y : ℕ → Block) (W i : ℕ) (r : List (List Bool)) : Type 0 where
  pub says : (a b : ℕ) → a < i → b ≤ W → Tells (at (get_or r (i - 1 - a) []) (W - b)) (Path X Y a b 0 0)

module _ {X Y : ℕ → Block} {U W : ℕ} (x : Bounded X U) (y : Bounded Y W) where
  -- the four ways to come to i and j
  Ways : ℕ → ℕ → Type 0
  Ways i j = ((i ≡ 0) × (j ≡ 0)) ⊎ (Under (EndsBy X (λ a. Path X Y a j 0 0) i) i ⊎ (Under (EndsBy Y (λ b. Path X Y i b 0 0) j) j
      ⊎ ((0 < i) × ((0 < j) × (Meets (X (i - 1)).base (Y (j - 1)).base × Path X Y (i - 1) (j - 1) 0 0)))))

  to_path : {i j : ℕ} → Ways i j → Path X Y i j 0 0
  unfolding Ways EndsBy
  to_path (inl e) = stay (sym e.0) (sym e.1)
  to_path (inr (inl p)) = path_then p.2.1 (first p.2.0.0 p.2.0.1 refl)
  to_path (inr (inr (inl p))) = path_then p.2.1 (second p.2.0.0 refl p.2.0.1)
  to_path (inr (inr (inr p))) = let i = p.0 in let q = p.1 in let j = q.0 in let t = q.1 in path_then t.1 (both t.0 (omega arith) (omega arith))

  path_bounds : {a b : ℕ} → Path X Y a b 0 0 → (a ≤ U) × (b ≤ W)
  path_bounds p = let t = text_of p in (ends_within x (omega arith) t.1, ends_within y (omega arith) t.2)

  by_move : {i j a b : ℕ} → Path X Y a b 0 0 → Move X Y a b i j → Ways i j
  unfolding Ways EndsBy
  by_move {i} {j} {a} {b} p (first l e f) =
      let s = path_bounds p in
      let room = x.room a (below x a s.0 l) in
      inr (inl (a, omega arith, ((l, e), subst (λ (z : ℕ). Path X Y a z 0 0) (sym f) p)))
  by_move {i} {j} {a} {b} p (second l e f) =
      let s = path_bounds p in
      let room = y.room b (below y b s.1 l) in
      inr (inr (inl (b, omega arith, ((l, f), subst (λ (z : ℕ). Path X Y z b 0 0) (sym e) p))))
  by_move {i} {j} {a} {b} p (both l e f) =
      let ea : a ≡ i - 1 = omega arith in
      let eb : b ≡ j - 1 = omega arith in
      let q : Path X Y (i - 1) (j - 1) 0 0 = subst (λ (z : ℕ). Path X Y z (j - 1) 0 0) ea (subst (λ (z : ℕ). Path X Y a z 0 0) eb p) in
      let m : Meets (X (i - 1)).base (Y (j - 1)).base = subst (λ (z : ℕ). Meets (X z).base (Y (j - 1)).base) ea (subst (λ (z : ℕ). Meets (X a).base (Y z).base) eb l) in
      inr (inr (inr (omega arith, (omega arith, (m, q)))))

  of_path : {i j : ℕ} → Path X Y i j 0 0 → Ways i j
  of_path p = ⊎_elim (λ z. start z) (λ z. by_move z.2 z.3) (last_move p)
    where
      start : {i j : ℕ} → (0 ≡ i) × (0 ≡ j) → Ways i j
      start z = unfold Ways in inl (sym z.0, sym z.1)

  module _ {i j : ℕ} {r : List (List Bool)} {c : List Bool} (g : j ≤ W) (rows : RowsTo X Y W i r) (cells : CellsTo X Y i j c) where
    diagonal : 0 < i → 0 < j → Tells (at (get_or r 0 []) (W - (j - 1))) (Path X Y (i - 1) (j - 1) 0 0)
    diagonal h k = subst (λ (z : ℕ). Tells (at (get_or r z []) (W - (j - 1))) (Path X Y (i - 1) (j - 1) 0 0)) (let e : i - 1 - (i - 1) ≡ 0 = omega arith in e)
        (rows.says (i - 1) (j - 1) (omega arith) (omega arith))

    reach_says : Tells (reach X Y W i j (froms X i i) (froms Y j j) r c) (Path X Y i j 0 0)
    unfolding reach Ways
    reach_says = tells_map to_path of_path
        (tells_or (tells_and _ (tells_eqb i 0) (λ e. tells_eqb j 0))
        (tells_or (any_froms X (λ a. Path X Y a j 0 0) (λ a. at (get_or r (i - 1 - a) []) (W - j)) i i (λ a l. rows.says a j l g))
        (tells_or (any_froms Y (λ b. Path X Y i b 0 0) (λ b. at c (j - 1 - b)) j j (λ b l. cells.says b l))
        (tells_and _ (tells_ltb 0 i) (λ h. tells_and _ (tells_ltb 0 j) (λ k. tells_and _ (tells_meet (X (i - 1)).base (Y (j - 1)).base) (λ m. diagonal h k)))))))

  cells_next : {i j : ℕ} {v : Bool} {c : List Bool} → Tells v (Path X Y i j 0 0) → CellsTo X Y i j c → CellsTo X Y i (suc j) (v ∷ c)
  unfolding at
  cells_next {i} {j} {v} {c} t s = record {
    says = λ b h. ⊎_elim
        (λ g. subst (λ (z : ℕ). Tells (get_or (v ∷ c) z false) (Path X Y i b 0 0)) (let e : suc (j - 1 - b) ≡ suc j - 1 - b = omega arith in e) (s.says b g))
        (λ g.
        let same : j ≡ b = omega arith in
        subst (λ (z : ℕ). Tells (get_or (v ∷ c) z false) (Path X Y i b 0 0)) (let e : 0 ≡ suc j - 1 - b = omega arith in e) (subst (λ (z : ℕ). Tells v (Path X Y i z 0 0)) same t))
        (lt_or_le b j);
  }

  module _ (fys : List (List ℕ)) (ends : (j : ℕ) → j ≤ W → get_or fys j [] ≡ froms Y j j) where
    first_cells_lem : {i : ℕ} {r : List (List Bool)} → RowsTo X Y W i r → (t : ℕ) → t ≤ W + 1 → CellsTo X Y i t (first_cells X Y W i (froms X i i) fys r t)
    unfolding first_cells cell_after
    first_cells_lem {i} {r} rows zero l = record { says = λ b h. absurd (omega arith) }
    first_cells_lem {i} {r} rows (suc j) l =
        let c = first_cells_lem rows j (omega arith) in
        cells_next (subst (λ (z : List ℕ). Tells (reach X Y W i j (froms X i i) z r (first_cells X Y W i (froms X i i) fys r j)) (Path X Y i j 0 0)) (sym (ends j (omega arith)))
        (reach_says (omega arith) rows c)) c

    rows_next : {i : ℕ} {c : List Bool} {r : List (List Bool)} → CellsTo X Y i (suc W) c → RowsTo X Y W i r → RowsTo X Y W (suc i) (c ∷ r)
    rows_next {i} {c} {r} s t = record {
      says = λ a b h k. ⊎_elim
          (λ g. subst (λ (z : ℕ). Tells (at (get_or (c ∷ r) z []) (W - b)) (Path X Y a b 0 0)) (let e : suc (i - 1 - a) ≡ suc i - 1 - a = omega arith in e) (t.says a b g k))
          (λ g.
          let same : i ≡ a = omega arith in
          subst (λ (z : ℕ). Tells (at (get_or (c ∷ r) z []) (W - b)) (Path X Y a b 0 0)) (let e : 0 ≡ suc i - 1 - a = omega arith in e)
          (subst (λ (z : ℕ). Tells (at c (W - b)) (Path X Y z b 0 0)) same
          (subst (λ (z : ℕ). Tells (at c z) (Path X Y i b 0 0)) (let e : suc W - 1 - b ≡ W - b = omega arith in e) (s.says b (omega arith)))))
          (lt_or_le a i);
    }

    pub first_rows_lem : (i : ℕ) → RowsTo X Y W i (first_rows X Y W fys i)
    unfolding first_rows row_after
    first_rows_lem zero = record { says = λ a b h. absurd (omega arith) }
    first_rows_lem (suc i) = rows_next (first_cells_lem (first_rows_lem i) (suc W) (omega arith)) (first_rows_lem i)
