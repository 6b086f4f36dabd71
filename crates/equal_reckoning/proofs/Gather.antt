-- The blocks that the function makes of a table are those of the pairs of fillings with one text. Assumes nothing.
use mathlib.Core.Path.{◌≡◌, refl, sym, ap, subst}
use mathlib.Core.Bool.{Bool, true, false, false≢true}
use mathlib.Core.List.{List, [], ◌∷◌}
use mathlib.Core.Logic.{◌⊎◌, inl, inr, ⊎_elim}
use Prim.Native.Nat.{ℕ, zero, suc, ◌+◌, ◌≤◌, ◌<◌}
use native.Mathlib.Omega.{arith}
use lib.Bits.{bit_and}
use lib.Dec.{eqb, ltb}
use lib.ListN.{length, get_or, take}
use Rattle.bases.specs.Base.{Holds, Meets}
use Rattle.plain.specs.Tells.{Tells}
use Rattle.plain.proofs.Plain.{lt_or_le}
use Rattle.sets.specs.Set.{Exactly}
use Rattle.sets.proofs.Exact.{exactly_as, none_exactly, both_exactly, either_exactly}
use Rattle.shapes.specs.Shape.{Block, total, no_block}
use Rattle.walks.specs.Walk.{here, both, Path, move, Bounded}
use Rattle.walks.proofs.Walks.{path_of, path_append, path_from, turn_path, text_of, below_character, ends_within}
use Rattle.walks.proofs.Laid.{to_end}
use Rattle.pads.specs.Pad.{PadPath, Roomy, after}
use Rattle.pads.specs.Collect.{Passes, Ends, empty, filled, Collected}
use Rattle.pads.proofs.Paths.{path_pad, pad_path, after_on}
use Rattle.pads.proofs.Cut.{Place}
use Rattle.plain.proofs.Tells.{tells_so}
use Rattle.equal_reckoning.specs.Equal.{joins, add, others_at, others_within, has_length, first_from, last_to, block_told, blocks_told}
use Rattle.equal_reckoning.proofs.Tests.{tells_map, tells_and, tells_eqb, tells_leb, tells_meet, Under, under_to, under_of, tells_some, if_cases}

-- T says of each pair of positions whether one text leads both to their ends, and whether one leads there from both
-- starts as well.
pub record Told (X Y : ℕ → Block) (U W : ℕ) (T : ℕ → ℕ → ℕ) : Type 0 where
  pub live : (i j : ℕ) → i ≤ U → j ≤ W → Tells (ltb 0 (T i j)) (Path X Y U W i j)
  pub marked : (i j : ℕ) → i ≤ U → j ≤ W → Tells (eqb (T i j) 2) (Path X Y U W i j × Path X Y i j 0 0)

-- the shapes in the other order
pub turn_told : {X Y : ℕ → Block} {U W : ℕ} {T : ℕ → ℕ → ℕ} → Told X Y U W T → Told Y X W U (λ i j. T j i)
turn_told t = record {
  live = λ i j h g. tells_map turn_path turn_path (t.live j i g h);
  marked = λ i j h g. tells_map (λ x. (turn_path x.0, turn_path x.1)) (λ x. (turn_path x.0, turn_path x.1)) (t.marked j i g h);
}

-- ---- a search up to n, where f tells of which numbers P holds, and w is one

module _ (f : ℕ → Bool) (P : ℕ → Type 0) {n w : ℕ} (says : (k : ℕ) → k ≤ n → Tells (f k) (P k)) (most : (k : ℕ) → P k → k ≤ n) (found : P w) where
  first_says : (t i : ℕ) → t + i ≡ n → ((k : ℕ) → P k → i ≤ k) → P (first_from f t i) × ((k : ℕ) → P k → first_from f t i ≤ k)
  unfolding first_from
  first_says zero i e g = let a = most w found in let b = g w found in (subst P (let z : w ≡ i = omega arith in z) found, g)
  first_says (suc t) i e g = if_cases (λ (v : ℕ). P v × ((k : ℕ) → P k → v ≤ k)) i (first_from f t (i + 1)) (says i (omega arith)) (λ p. (p, g))
      (λ none. first_says t (i + 1) (omega arith)
      (λ k p. let b = g k p in ⊎_elim (λ l. omega arith) (λ l. absurd (none (subst P (let z : k ≡ i = omega arith in z) p))) (lt_or_le i k)))

  last_says : (i : ℕ) → i ≤ n → ((k : ℕ) → P k → k ≤ i) → P (last_to f i) × ((k : ℕ) → P k → k ≤ last_to f i)
  unfolding last_to
  last_says zero h g = let b = g w found in (subst P (let z : w ≡ 0 = omega arith in z) found, g)
  last_says (suc i) h g = if_cases (λ (v : ℕ). P v × ((k : ℕ) → P k → k ≤ v)) (suc i) (last_to f i) (says (suc i) h) (λ p. (p, g))
      (λ none. last_says i (omega arith)
      (λ k p. let b = g k p in ⊎_elim (λ l. absurd (none (subst P (let z : k ≡ suc i = omega arith in z) p))) (λ l. l) (lt_or_le i k)))

-- ---- the characters that the table shows

-- the characters of one more position
more_exactly : (P : ℕ → ℕ → Type 0) (n : ℕ) {a r : ℕ} → Exactly r (λ c. Holds a c ⊎ P n c) → Exactly a (λ c. Under (λ j. P j c) n) → Exactly r (λ c. Under (λ j. P j c) (suc n))
more_exactly P n x y = exactly_as
    (λ c u. under_to (λ j. P j c) (⊎_elim (λ h. inr (y.so c h)) (λ h. inl h) u))
    (λ c u. ⊎_elim (λ h. inr h) (λ h. inl (y.has c h)) (under_of (λ j. P j c) u))
    x

-- a, and b where v
add_exactly : (v : Bool) (a b : ℕ) → Exactly (add v a b) (λ c. Holds a c ⊎ ((v ≡ true) × Holds b c))
unfolding add
add_exactly true a b = exactly_as (λ c. ⊎_elim (λ h. inl h) (λ h. inr (refl, h))) (λ c. ⊎_elim (λ h. inl h) (λ h. inr h.1)) (either_exactly a b refl)
add_exactly false a b = record { so = λ c h. inl h; has = λ c. ⊎_elim (λ h. h) (λ h. absurd (false≢true h.0)) }

module _ (T : ℕ → ℕ → ℕ) (Y : ℕ → Block) where
  -- the other shape can take c at j where this is at i
  Shown : ℕ → ℕ → ℕ → Type 0
  Shown i j c = (joins T i j (i + 1) (j + 1) ≡ true) × Holds (Y j).base c

  others_say : (i n : ℕ) → Exactly (others_at T Y i n) (λ c. Under (λ j. Shown i j c) n)
  unfolding others_at Shown
  others_say i zero = none_exactly refl (λ c x. let l = x.1 in omega arith)
  others_say i (suc n) = more_exactly (Shown i) n (add_exactly _ _ _) (others_say i n)

  within_say : (m p k : ℕ) → Exactly (others_within T Y m p k) (λ c. Under (λ i. Under (λ j. Shown (p + i) j c) m) k)
  unfolding others_within
  within_say m p zero = none_exactly refl (λ c x. let l = x.1 in omega arith)
  within_say m p (suc k) = let o = others_say (p + k) m in more_exactly (λ i c. Under (λ j. Shown (p + i) j c) m) k
      (exactly_as (λ c. ⊎_elim (λ h. inl h) (λ h. inr (o.so c h))) (λ c. ⊎_elim (λ h. inl h) (λ h. inr (o.has c h))) (either_exactly _ _ refl))
      (within_say m p k)

-- ---- one block

module _ {X Y : ℕ → Block} {U W p : ℕ} {b : Block} {T : ℕ → ℕ → ℕ} (at : Place X Y U W p b) (x : Roomy X) (y : Roomy Y) (end : Bounded Y W) (t : Told X Y U W T) where
  -- the starts lead to i and j, and these to the ends, as e and d do
  abbrev Joint : ℕ → ℕ → ℕ → ℕ → Type 0
  Joint i j e d = (Path X Y U W i j × Path X Y i j 0 0) × Path X Y U W e d

  joins_says : {i j e d : ℕ} → i ≤ U → j ≤ W → e ≤ U → d ≤ W → Tells (joins T i j e d) (Joint i j e d)
  unfolding joins
  joins_says h g k l = tells_and _ (t.marked _ _ h g) (λ z. t.live _ _ k l)

  -- without padding one text leads both, and the other goes on at each character
  to_path : {m n i j : ℕ} → PadPath X Y m n i j → Path X Y m n i j
  to_path q = pad_path x y q

  on : {m n i : ℕ} (j c : ℕ) → Holds (Y j).base c → PadPath X Y m n i (after Y j) → Path X Y m n i (j + 1)
  on j c h q = path_from refl (sym (after_on Y j (y.has j c h))) (to_path q)

  on_pad : {m n i : ℕ} (j c : ℕ) → Holds (Y j).base c → Path X Y m n i (j + 1) → PadPath X Y m n i (after Y j)
  on_pad j c h q = path_pad x y (path_from refl (after_on Y j (y.has j c h)) q)

  -- and stays within its positions
  reached_within : {i j : ℕ} → PadPath X Y i j 0 0 → j ≤ W
  reached_within q = let v = text_of (to_path q) in ends_within end (omega arith) v.2

  taken_below : {i j : ℕ} (c : ℕ) → PadPath X Y i j 0 0 → Holds (Y j).base c → j < W
  taken_below {j = j} c q h = below_character end j c (reached_within q) h

  -- both take a character within the block
  by_both : {k j : ℕ} → k < b.upper → Meets b.base (Y j).base → Path X Y U W (p + k + 1) (j + 1) → Path X Y U W (p + k) j
  by_both {k} {j} h m q = let own : Meets (X (p + k)).base (Y j).base = rw (at.has.slot k h) m in move (both own refl refl) q

  -- from where enough is taken the block's end is reached with nothing more read
  by_end : {k i j : ℕ} → i ≡ p + k → b.lower ≤ k → k ≤ b.upper → Path X Y U W (p + b.upper) j → Path X Y U W i j
  by_end e l h q = path_from e refl (path_append (path_of (to_end at.has _ l h) (here refl)) q)

  passes_say : Exactly (bit_and b.base (others_within T Y W p b.upper)) (Passes X Y U W p b)
  unfolding Shown
  passes_say = exactly_as passes shown (both_exactly _ _ refl)
    where
      shows : {i j : ℕ} → i < b.upper → j < W → Tells (joins T (p + i) j (p + i + 1) (j + 1)) (Joint (p + i) j (p + i + 1) (j + 1))
      shows h g = let fits = at.fits in joins_says (omega arith) (omega arith) (omega arith) (omega arith)

      passes : (c : ℕ) → Holds b.base c × Holds (others_within T Y W p b.upper) c → Passes X Y U W p b c
      passes c h =
          let u = (within_say T Y W p b.upper).so c h.1 in
          let v = u.2 in
          let q = (shows u.1 v.1).so v.2.0 in
          record { before = u.0; other = v.0; room = u.1; reached = path_pad x y q.0.1; own = h.0; others = v.2.1; on = on_pad v.0 c v.2.1 q.1 }

      shown : (c : ℕ) → Passes X Y U W p b c → Holds b.base c × Holds (others_within T Y W p b.upper) c
      shown c s =
          let bound = taken_below c s.reached s.others in
          let rest = on s.other c s.others s.on in
          let q = tells_so (shows s.room bound) ((by_both s.room (record { shared = c; first = s.own; second = s.others }) rest, to_path s.reached), rest) in
          (s.own, (within_say T Y W p b.upper).has c (s.before, s.room, (s.other, bound, (q, s.others))))

  length_says : (n : ℕ) → n ≤ b.upper → Tells (has_length T Y W p b n) (Ends X Y U W p b n)
  unfolding has_length
  length_says zero h = let fits = at.fits in tells_map
      (λ x'. let s = x'.1 in empty s.0 x'.0 refl (path_pad x y s.2.0.1) (path_pad x y s.2.1))
      (elim [
        | empty j low e pre post ↦ (low, (j, (let l = reached_within pre in omega arith), ((by_end {k = 0} (omega arith) (omega arith) h (to_path post), to_path pre), to_path post)))
        | filled k j e room low pre m post ↦ absurd (omega arith)
      ])
      (tells_and _ (tells_eqb b.lower 0) (λ e. tells_some _ (λ j. Joint p j (p + b.upper) j) (suc W) (λ j l. joins_says (omega arith) (omega arith) fits (omega arith))))
  length_says (suc k) h = let fits = at.fits in tells_map
      (λ x'. let s = x'.1 in let m = s.2.1 in filled k s.0 (omega arith) (omega arith) x'.0 (path_pad x y s.2.0.0.1) m (on_pad s.0 m.shared m.second s.2.0.1))
      (split k h)
      (tells_and _ (tells_leb b.lower (suc k)) (λ e. tells_some _ (λ j. Joint (p + k) j (p + b.upper) (j + 1) × Meets b.base (Y j).base) W
      (λ j l. tells_and _ (joins_says (omega arith) (omega arith) fits (omega arith)) (λ z. tells_meet b.base (Y j).base))))
    where
      split : (k : ℕ) → suc k ≤ b.upper → Ends X Y U W p b (suc k) → (b.lower ≤ suc k) × Under (λ j. Joint (p + k) j (p + b.upper) (j + 1) × Meets b.base (Y j).base) W
      split k h (empty j low e pre post) = absurd (omega arith)
      split k h (filled i j e room low pre m post) =
          let rest = on j m.shared m.second post in
          let q = by_both room m (by_end {k = suc k} (omega arith) low h rest) in
          let z : i ≡ k = omega arith in
          (low, (j, taken_below m.shared pre m.second, (((subst (λ (v : ℕ). Path X Y U W (p + v) j) z q, subst (λ (v : ℕ). Path X Y (p + v) j 0 0) z (to_path pre)), rest), m)))

  pub block_says : {n : ℕ} → Ends X Y U W p b n → Collected X Y U W p b (block_told T Y W p b)
  unfolding block_told
  block_says some =
      let s = first_says (has_length T Y W p b) (Ends X Y U W p b) length_says short some b.upper 0 (omega arith) (λ k e. omega arith) in
      let l = last_says (has_length T Y W p b) (Ends X Y U W p b) length_says short some b.upper (omega arith) short in
      record { held = passes_say.so; all_held = passes_say.has; shortest = s.0; not_shorter = s.1; longest = l.0; not_longer = l.1 }
    where
      short : (k : ℕ) → Ends X Y U W p b k → k ≤ b.upper
      short k (empty j low e pre post) = omega arith
      short k (filled i j e room low pre m post) = omega arith

-- ---- all blocks

module _ (T : ℕ → ℕ → ℕ) (Y : ℕ → Block) (m : ℕ) where
  pub blocks_size : (p : ℕ) (s : List Block) → length (blocks_told T Y m p s) ≡ length s
  unfolding blocks_told
  blocks_size p [] = refl
  blocks_size p (b ∷ s) = ap suc (blocks_size (p + b.upper) s)

  pub blocks_at : (p q : ℕ) (s : List Block) (i : ℕ) → i < length s → q ≡ p + total (take i s) → get_or (blocks_told T Y m p s) i no_block ≡ block_told T Y m q (get_or s i no_block)
  unfolding blocks_told total
  blocks_at p q [] i h e = absurd (omega arith)
  blocks_at p q (b ∷ s) zero h e = ap (λ (z : ℕ). block_told T Y m z b) (let z : p ≡ q = omega arith in z)
  blocks_at p q (b ∷ s) (suc i) h e = blocks_at (p + b.upper) q s i (omega arith) (omega arith)
