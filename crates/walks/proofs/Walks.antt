-- Readings: joined and cut, two of one text as a path, and paths joined and turned. Assumes nothing.
use mathlib.Core.Path.{◌≡◌, refl, sym, subst}
use mathlib.Core.List.{List, [], ◌∷◌, ◌++◌, append-nil}
use Prim.Native.Nat.{ℕ, ◌+◌, ◌≤◌, ◌<◌}
use mathlib.Core.Logic.{⊎_elim}
use native.Mathlib.Omega.{arith}
use Rattle.bases.specs.Base.{Holds}
use Rattle.plain.proofs.Plain.{lt_or_le}
use Rattle.shapes.specs.Shape.{Block}
use Rattle.walks.specs.Walk.{Walk, here, skip, step, Move, first, second, both, Path, stay, move, Bounded}

-- ---- one reading

module _ {X : ℕ → Block} where
  pub walk_from : {q p p' : ℕ} {t : List ℕ} → p' ≡ p → Walk X q p t → Walk X q p' t
  walk_from {q} {t} e w = subst (λ (x : ℕ). Walk X q x t) (sym e) w

  pub walk_to : {q q' p : ℕ} {t : List ℕ} → q ≡ q' → Walk X q p t → Walk X q' p t
  walk_to {p} {t} e w = subst (λ (x : ℕ). Walk X x p t) e w

  pub walk_text : {q p : ℕ} {t u : List ℕ} → t ≡ u → Walk X q p t → Walk X q p u
  walk_text {q} {p} e w = subst (Walk X q p) e w

  pub walk_append : {q p r : ℕ} {t u : List ℕ} → Walk X q p t → Walk X r q u → Walk X r p (t ++ u)
  walk_append (here e) v = walk_from e v
  walk_append (skip l w) v = skip l (walk_append w v)
  walk_append (step h w) v = step h (walk_append w v)

  pub forwards : {q p : ℕ} {t : List ℕ} → Walk X q p t → p ≤ q
  forwards (here e) = omega arith
  forwards (skip l w) = let h = forwards w in omega arith
  forwards (step h w) = let g = forwards w in omega arith

  -- the place where the first character is taken
  pub take_one : {q p c : ℕ} {t : List ℕ} → Walk X q p (c ∷ t) → (m : ℕ) × Walk X m p [] × Holds (X m).base c × Walk X q (m + 1) t
  take_one (skip l w) = let r = take_one w in (r.0, skip l r.1, r.2, r.3)
  take_one {p = p} (step h w) = (p, here refl, h, w)

  -- the place where a reading of t and more has read t
  pub split_text : {q p : ℕ} (t u : List ℕ) → Walk X q p (t ++ u) → (m : ℕ) × Walk X m p t × Walk X q m u
  split_text {p = p} [] u w = (p, here refl, w)
  split_text {q = q} {p = p} (c ∷ t) u w =
      let a = take_one w in
      let r = split_text {p = (take_one w).0 + 1} t u a.3 in
      (r.0, walk_append a.1 (step a.2 r.1), r.2)

  -- the place where it takes the character after t
  pub split_char : {q p : ℕ} (t u : List ℕ) (c : ℕ) → Walk X q p (t ++ c ∷ u) → (m : ℕ) × Walk X m p t × Holds (X m).base c × Walk X q (m + 1) u
  split_char t u c w =
      let r = split_text t (c ∷ u) w in
      let a = take_one r.2 in
      (a.0, walk_text (append-nil t) (walk_append r.1 a.1), a.2, a.3)

-- ---- within bounds

module _ {X : ℕ → Block} {U : ℕ} (b : Bounded X U) where
  pub below : (p : ℕ) → p ≤ U → (X p).lower ≡ 0 → p < U
  below p h l = ⊎_elim (λ g. g) (λ g. absurd (b.no_run (subst (λ (x : ℕ). (X x).lower ≡ 0) (let e : p ≡ U = omega arith in e) l))) (lt_or_le p U)

  pub below_character : (p c : ℕ) → p ≤ U → Holds (X p).base c → p < U
  below_character p c h l = ⊎_elim (λ g. g) (λ g. absurd (b.no_character c (subst (λ (x : ℕ). Holds (X x).base c) (let e : p ≡ U = omega arith in e) l))) (lt_or_le p U)

  -- a reading that goes nowhere reads nothing
  pub still : {q p : ℕ} {t : List ℕ} → p ≤ U → Walk X q p t → q ≡ p → t ≡ []
  still h (here e) g = refl
  still {p = p} h (skip l w) g = let z = b.room p (below p h l) in let f = forwards w in absurd (omega arith)
  still h (step c w) g = let f = forwards w in absurd (omega arith)

  -- a reading stays within
  pub ends_within : {q p : ℕ} {t : List ℕ} → p ≤ U → Walk X q p t → q ≤ U
  ends_within h (here e) = omega arith
  ends_within {p = p} h (skip l w) = ends_within (b.within p (below p h l)) w
  ends_within {p = p} h (step {c = c} k w) = ends_within (let g = below_character p c h k in omega arith) w

-- ---- two readings of one text

module _ {X Y : ℕ → Block} {m n : ℕ} where
  then_step : {i j c : ℕ} {t : List ℕ} → Holds (X i).base c → ((j : ℕ) → Walk Y n j t → Path X Y m n (i + 1) j) → Walk Y n j (c ∷ t) → Path X Y m n i j
  then_step h f (skip l v) = move (second l refl refl) (then_step h f v)
  then_step {c = c} h f (step g v) = move (both (record { shared = c; first = h; second = g }) refl refl) (f _ v)

  then_end : {i j : ℕ} → i ≡ m → Walk Y n j [] → Path X Y m n i j
  then_end e (here g) = stay e g
  then_end e (skip l v) = move (second l refl refl) (then_end e v)

  pub path_of : {i j : ℕ} {t : List ℕ} → Walk X m i t → Walk Y n j t → Path X Y m n i j
  path_of (here e) v = then_end e v
  path_of (skip l w) v = move (first l refl refl) (path_of w v)
  path_of (step h w) v = then_step h (λ j v. path_of w v) v

  -- the text of a path
  moved : {i j a b : ℕ} → Move X Y i j a b → (t : List ℕ) × Walk X m a t × Walk Y n b t → (t : List ℕ) × Walk X m i t × Walk Y n j t
  moved (first l e f) r = (r.0, skip l (walk_from (sym e) r.1), walk_from (sym f) r.2)
  moved (second l e f) r = (r.0, walk_from (sym e) r.1, skip l (walk_from (sym f) r.2))
  moved (both h e f) r = (h.shared ∷ r.0, step h.first (walk_from (sym e) r.1), step h.second (walk_from (sym f) r.2))

  pub text_of : {i j : ℕ} → Path X Y m n i j → (t : List ℕ) × Walk X m i t × Walk Y n j t
  text_of (stay e f) = ([], here e, here f)
  text_of (move s p) = moved s (text_of p)

  pub path_from : {i j i' j' : ℕ} → i' ≡ i → j' ≡ j → Path X Y m n i j → Path X Y m n i' j'
  path_from {i} {j} {i'} {j'} e f p = subst (λ (x : ℕ). Path X Y m n x j') (sym e) (subst (λ (x : ℕ). Path X Y m n i x) (sym f) p)

-- ---- paths joined, and the shapes in the other order

module _ {X Y : ℕ → Block} where
  pub path_append : {k l m n i j : ℕ} → Path X Y m n i j → Path X Y k l m n → Path X Y k l i j
  path_append (stay e f) q = path_from e f q
  path_append (move s p) q = move s (path_append p q)

  pub path_then : {m n i j a b : ℕ} → Path X Y m n i j → Move X Y m n a b → Path X Y a b i j
  path_then p s = path_append p (move s (stay refl refl))

  pub turn_move : {i j a b : ℕ} → Move X Y i j a b → Move Y X j i b a
  turn_move (first l e f) = second l f e
  turn_move (second l e f) = first l f e
  turn_move (both h e f) = both (record { shared = h.shared; first = h.second; second = h.first }) f e

  pub turn_path : {m n i j : ℕ} → Path X Y m n i j → Path Y X n m j i
  turn_path (stay e f) = stay f e
  turn_path (move s p) = move (turn_move s) (turn_path p)
