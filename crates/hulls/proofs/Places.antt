-- Elements picked from a list by their places, and new ones laid over the same places. Assumes nothing.
use mathlib.Core.Path.{◌≡◌, refl, sym, ap, ◌∙◌}
use mathlib.Core.List.{List, [], ◌∷◌, ◌++◌}
use mathlib.Core.Logic.{◌⊎◌, inl, inr, ⊎_elim}
use Prim.Native.Nat.{ℕ, zero, suc, ◌+◌, ◌≤◌, ◌<◌}
use native.Mathlib.Omega.{arith}
use lib.ListN.{length, get_or, take, drop, set, length-set}
use lib.Seq.{drop-cons, get_or-set_same, get_or-set_other, sets}
use Rattle.plain.proofs.Plain.{eq_or_ne}
use Rattle.plain.specs.All.{All, more}
use Rattle.plain.proofs.All.{all_append, all_map}

-- the place i is none of these
abbrev pub Off : List ℕ → ℕ → Type 0
Off p i = All (λ (j : ℕ). j ≡ i → ⊥) p

-- no place occurs twice
pub data Distinct : List ℕ → Type 0 where
  no_place : Distinct []
  one_more : {i : ℕ} {p : List ℕ} → Off p i → Distinct p → Distinct (i ∷ p)

-- the place i is the k-th of these
pub record On (p : List ℕ) (i : ℕ) : Type 0 where
  pub at : ℕ
  pub within : at < length p
  pub is : get_or p at 0 ≡ i

pub on_or_off : (p : List ℕ) (i : ℕ) → On p i ⊎ Off p i
on_or_off [] i = inr All.none
on_or_off (j ∷ p) i = ⊎_elim
    (λ e. inl (record { at = 0; within = omega arith; is = e }))
    (λ d. ⊎_elim (λ o. inl (record { at = suc o.at; within = let h = o.within in omega arith; is = o.is })) (λ o. inr (more d o)) (on_or_off p i))
    (eq_or_ne j i)

module _ {A : Type 0} (d : A) where
  pub picked : List ℕ → List A → List A
  picked [] l = []
  picked (i ∷ p) l = get_or l i d ∷ picked p l

  pub over : List ℕ → List A → List A → List A
  over [] x l = l
  over (i ∷ p) [] l = l
  over (i ∷ p) (a ∷ x) l = over p x (set l i a)

  -- ---- picked

  pub picked_length : (p : List ℕ) (l : List A) → length (picked p l) ≡ length p
  unfolding picked
  picked_length [] l = refl
  picked_length (i ∷ p) l = ap suc (picked_length p l)

  pub picked_at : (p : List ℕ) (l : List A) (k : ℕ) → k < length p → get_or (picked p l) k d ≡ get_or l (get_or p k 0) d
  unfolding picked
  picked_at [] l k h = absurd (omega arith)
  picked_at (i ∷ p) l zero h = refl
  picked_at (i ∷ p) l (suc k) h = picked_at p l k (omega arith)

  pub picked_join : (p q : List ℕ) (l : List A) → picked (p ++ q) l ≡ picked p l ++ picked q l
  unfolding picked
  picked_join [] q l = refl
  picked_join (i ∷ p) q l = ap (λ (r : List A). get_or l i d ∷ r) (picked_join p q l)

  -- ---- laid over

  pub over_length : (p : List ℕ) (x l : List A) → length (over p x l) ≡ length l
  unfolding over
  over_length [] x l = refl
  over_length (i ∷ p) [] l = refl
  over_length (i ∷ p) (a ∷ x) l = over_length p x (set l i a) ∙ length-set l i a

  pub over_off : (p : List ℕ) (x l : List A) (i : ℕ) → Off p i → get_or (over p x l) i d ≡ get_or l i d
  unfolding over
  over_off [] x l i o = refl
  over_off (j ∷ p) [] l i o = refl
  over_off (j ∷ p) (a ∷ x) l i (more e o) = over_off p x (set l j a) i o ∙ get_or-set_other l j i a d (λ q. e (sym q))

  pub over_at : (p : List ℕ) (x l : List A) (k : ℕ) → Distinct p → All (λ (i : ℕ). i < length l) p → length x ≡ length p → k < length p
      → get_or (over p x l) (get_or p k 0) d ≡ get_or x k d
  unfolding over
  over_at [] x l k t w e h = absurd (omega arith)
  over_at (i ∷ p) [] l k t w e h = absurd (omega arith)
  over_at (i ∷ p) (a ∷ x) l zero (one_more o t) (more b w) e h = over_off p x (set l i a) i o ∙ get_or-set_same l i a d b
  over_at (i ∷ p) (a ∷ x) l (suc k) (one_more o t) (more b w) e h =
      over_at p x (set l i a) k t (all_map (λ j g. let s = length-set l i a in omega arith) w) (omega arith) (omega arith)

  pub over_join : (p q : List ℕ) (x y l : List A) → length x ≡ length p → over (p ++ q) (x ++ y) l ≡ over q y (over p x l)
  unfolding over
  over_join [] q [] y l e = refl
  over_join [] q (a ∷ x) y l e = absurd (omega arith)
  over_join (i ∷ p) q [] y l e = absurd (omega arith)
  over_join (i ∷ p) q (a ∷ x) y l e = over_join p q x y (set l i a) (omega arith)

-- ---- places in a row

-- n places from m on
pub row : ℕ → ℕ → List ℕ
row m zero = []
row m (suc n) = m ∷ row (suc m) n

pub row_length : (m n : ℕ) → length (row m n) ≡ n
unfolding row
row_length m zero = refl
row_length m (suc n) = ap suc (row_length (suc m) n)

pub row_all : {P : ℕ → Type 0} (m n : ℕ) → ((i : ℕ) → m ≤ i → i < m + n → P i) → All P (row m n)
unfolding row
row_all m zero f = All.none
row_all m (suc n) f = more (f m (omega arith) (omega arith)) (row_all (suc m) n (λ i a b. f i (omega arith) (omega arith)))

pub row_distinct : (m n : ℕ) → Distinct (row m n)
unfolding row
row_distinct m zero = no_place
row_distinct m (suc n) = one_more (row_all (suc m) n (λ i a b (e : i ≡ m). omega arith)) (row_distinct (suc m) n)

-- two lists of places that share none
pub distinct_join : {p q : List ℕ} → Distinct p → Distinct q → All (Off q) p → Distinct (p ++ q)
distinct_join no_place t o = t
distinct_join (one_more f s) t (more o os) = one_more (all_append f o) (distinct_join s t os)

module _ {A : Type 0} (d : A) where
  pub picked_row : (m n : ℕ) (l : List A) → m + n ≤ length l → picked d (row m n) l ≡ take n (drop m l)
  unfolding picked row
  picked_row m zero l h = refl
  picked_row m (suc n) l h = ap (λ (r : List A). get_or l m d ∷ r) (picked_row (suc m) n l (omega arith)) ∙ ap (take (suc n)) (sym (drop-cons l m d (omega arith)))

  pub over_row : (m n : ℕ) (x l : List A) → length x ≡ n → over d (row m n) x l ≡ sets l m x
  unfolding over row
  over_row m zero [] l e = refl
  over_row m zero (a ∷ x) l e = absurd (omega arith)
  over_row m (suc n) [] l e = absurd (omega arith)
  over_row m (suc n) (a ∷ x) l e = over_row (suc m) n x (set l m a) (omega arith)
