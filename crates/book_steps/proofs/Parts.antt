-- The parts of all blocks, or of what goes with each block, that belong to some texts ks of a book: picked end to end,
-- and new ones laid over them. Assumes nothing.
use mathlib.Core.Path.{◌≡◌, refl, sym, ap, ap₂, ◌∙◌}
use mathlib.Core.List.{List, [], ◌∷◌, ◌++◌, append_assoc}
use mathlib.Core.Logic.{◌⊎◌, inl, inr, ⊎_elim}
use Prim.Native.Nat.{ℕ, ◌+◌, ◌≤◌, ◌<◌}
use native.Mathlib.Omega.{arith}
use lib.ListN.{length, take, drop, length-drop}
use lib.Seq.{length-take-le, ext_get_or, sets, sets-eq}
use Rattle.plain.proofs.Plain.{lt_or_le}
use Rattle.plain.specs.All.{All, more}
use Rattle.plain.proofs.All.{all_append}
use Rattle.hulls.proofs.Places.{Off, Distinct, no_place, one_more, picked, over, picked_length, picked_join, over_length, over_off, over_join, row, row_length, row_all, row_distinct, distinct_join, picked_row, over_row}
use Rattle.books.specs.Counts.{sum_of, count_of, first_of}
use Rattle.books.specs.Rules.{Names}
use Rattle.books.proofs.Sums.{text_before, text_within}
use Rattle.laying.specs.Laid.{replaced}
use Rattle.laying.proofs.Laid.{replaced_length}

-- lists end to end
unfoldable pub join_all : {A : Type 0} → List (List A) → List A
join_all [] = []
join_all (x ∷ xs) = x ++ join_all xs

nothing : {A : Type 0} (l : List A) → length l ≡ 0 → l ≡ []
nothing [] e = refl
nothing (a ∷ l) e = absurd (omega arith)

sets_replaced : {A : Type 0} (m : ℕ) (x l : List A) → m + length x ≤ length l → sets l m x ≡ replaced m x l
sets_replaced m x l h = sets-eq x l m h ∙ append_assoc (take m l) x (drop (m + length x) l)

module _ (counts : List ℕ) where
  -- of two texts one lies before the other
  pub either_side : (j k : ℕ) → Names counts j → Names counts k → (j ≡ k → ⊥)
      → (first_of counts j + count_of counts j ≤ first_of counts k) ⊎ (first_of counts k + count_of counts k ≤ first_of counts j)
  either_side j k n m differ = ⊎_elim
      (λ l. inl (text_before counts j k n.from_one l))
      (λ l. inr (text_before counts k j m.from_one (let other : k ≡ j → ⊥ = λ e. differ (sym e) in omega arith)))
      (lt_or_le j k)

  -- the places of their blocks
  unfoldable pub places_of : List ℕ → List ℕ
  places_of [] = []
  places_of (k ∷ ks) = row (first_of counts k) (count_of counts k) ++ places_of ks

  places_off : (k i : ℕ) (ks : List ℕ) → Names counts k → All (Names counts) ks → Off ks k → first_of counts k ≤ i → i < first_of counts k + count_of counts k → Off (places_of ks) i
  unfolding places_of
  places_off k i [] n a o p q = All.none
  places_off k i (j ∷ ks) n (more m a) (more d o) p q = all_append
      (row_all (first_of counts j) (count_of counts j) (λ h u v (e : h ≡ i). ⊎_elim (λ l. omega arith) (λ l. omega arith) (either_side j k m n d)))
      (places_off k i ks n a o p q)

  pub places_distinct : (ks : List ℕ) → All (Names counts) ks → Distinct ks → Distinct (places_of ks)
  unfolding places_of
  places_distinct [] a d = no_place
  places_distinct (k ∷ ks) (more n a) (one_more o d) =
      distinct_join (row_distinct (first_of counts k) (count_of counts k)) (places_distinct ks a d)
      (row_all (first_of counts k) (count_of counts k) (λ i p q. places_off k i ks n a o p q))

  pub places_within : (ks : List ℕ) (n : ℕ) → n ≡ sum_of counts → All (Names counts) ks → All (λ (i : ℕ). i < n) (places_of ks)
  unfolding places_of
  places_within [] n e a = All.none
  places_within (k ∷ ks) n e (more m a) =
      let w = text_within counts k m.from_one in
      all_append (row_all (first_of counts k) (count_of counts k) (λ i p q. omega arith)) (places_within ks n e a)

  module _ {A : Type 0} where
    -- the part of text k
    abbrev pub part_of : ℕ → List A → List A
    part_of k l = take (count_of counts k) (drop (first_of counts k) l)

    pub part_size : (k : ℕ) (l : List A) → Names counts k → length l ≡ sum_of counts → length (part_of k l) ≡ count_of counts k
    part_size k l n e =
        let w = text_within counts k n.from_one in let d = length-drop (first_of counts k) l in length-take-le (count_of counts k) (drop (first_of counts k) l) (omega arith)

    -- their parts, one after the other
    unfoldable pub parts_of : List ℕ → List A → List (List A)
    parts_of [] l = []
    parts_of (k ∷ ks) l = part_of k l ∷ parts_of ks l

    -- what is picked from their places are their parts
    pub parts_picked : (d : A) (ks : List ℕ) (l : List A) → All (Names counts) ks → length l ≡ sum_of counts → picked d (places_of ks) l ≡ join_all (parts_of ks l)
    unfolding places_of parts_of join_all
    parts_picked d [] l a e = nothing (picked d [] l) (picked_length d [] l)
    parts_picked d (k ∷ ks) l (more n a) e =
        let w = text_within counts k n.from_one in
        picked_join d (row (first_of counts k) (count_of counts k)) (places_of ks) l
        ∙ ap₂ ◌++◌ (picked_row d (first_of counts k) (count_of counts k) l (omega arith)) (parts_picked d ks l a e)

    -- new parts, one for each text, laid over the old ones
    unfoldable pub laid_parts : List ℕ → List (List A) → List A → List A
    laid_parts [] xs l = l
    laid_parts (k ∷ ks) [] l = l
    laid_parts (k ∷ ks) (x ∷ xs) l = laid_parts ks xs (replaced (first_of counts k) x l)

-- each of these has as many elements as its text has blocks
pub data Sized {A : Type 0} (counts : List ℕ) : List ℕ → List (List A) → Type 0 where
  no_text : Sized counts [] []
  one_text : {k : ℕ} {x : List A} {ks : List ℕ} {xs : List (List A)} → length x ≡ count_of counts k → Sized counts ks xs → Sized counts (k ∷ ks) (x ∷ xs)

module _ (counts : List ℕ) {A : Type 0} where
  -- what is laid over their places is laid over one part after the other
  pub laid_over_lem : (d : A) (ks : List ℕ) (xs : List (List A)) (l : List A) → All (Names counts) ks → length l ≡ sum_of counts → Sized counts ks xs
      → over d (places_of counts ks) (join_all xs) l ≡ laid_parts counts ks xs l
  unfolding places_of laid_parts join_all
  laid_over_lem d [] (x ∷ xs) l a e x7 = elim x7 [ ]
  laid_over_lem d (k ∷ ks) [] l a e x5 = elim x5 [ ]
  laid_over_lem d [] [] l a e no_text = ext_get_or d (over d [] [] l) l (over_length d [] [] l) (λ i h. over_off d [] [] l i All.none)
  laid_over_lem d (k ∷ ks) (x ∷ xs) l (more n a) e (one_text s z) =
      let w = text_within counts k n.from_one in
      let fits : first_of counts k + length x ≤ length l = omega arith in
      over_join d (row (first_of counts k) (count_of counts k)) (places_of counts ks) x (join_all xs) l (s ∙ sym (row_length _ _))
      ∙ ap (over d (places_of counts ks) (join_all xs)) (over_row d (first_of counts k) (count_of counts k) x l s ∙ sets_replaced (first_of counts k) x l fits)
      ∙ laid_over_lem d ks xs (replaced (first_of counts k) x l) a (replaced_length (first_of counts k) x l fits ∙ e) z
