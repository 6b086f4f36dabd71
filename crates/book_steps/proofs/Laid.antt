-- New numbers of some texts of a book laid over their old ones: what is read then, the blocks that they are, and
-- whether anything is changed. Assumes nothing.
use mathlib.Core.Path.{◌≡◌, refl, sym, ap, ◌∙◌}
use mathlib.Core.Bool.{Bool, true, true≢false}
use mathlib.Core.List.{List, [], ◌∷◌, map}
use mathlib.Core.Logic.{⊎_elim}
use Prim.Native.Nat.{ℕ, ◌+◌, ◌*◌, ◌≤◌}
use native.Mathlib.Omega.{arith}
use lib.ListN.{length, take, drop}
use Rattle.plain.specs.Tells.{Tells}
use Rattle.plain.specs.All.{All, more}
use Rattle.shapes.specs.Shape.{Block, block_size}
use Rattle.shapes.specs.Lent.{Numbers, shape_of, words_of}
use Rattle.shapes.proofs.Numbers.{shape_words, words_length}
use Rattle.hulls.proofs.Places.{Off, Distinct, one_more}
use Rattle.laying.specs.Laid.{replaced}
use Rattle.laying.proofs.Laid.{replaced_length, read_there, read_before, read_after, stood_there}
use Rattle.laying.proofs.Shapes.{shape_replaced, replaced_bounded}
use Rattle.books.specs.Counts.{sum_of, count_of, first_of}
use Rattle.books.specs.Rules.{Names}
use Rattle.books.specs.Code.{numbers_in}
use Rattle.books.proofs.Sums.{text_within}
use Rattle.plain.proofs.Tells.{tells_so}
use Rattle.book_steps.specs.Step.{laid_over}
use Rattle.book_steps.proofs.Parts.{either_side, laid_parts, Sized, no_text, one_text}

module _ (counts : List ℕ) where
  -- the numbers of text k, given the new blocks B
  abbrev pub laid_one : ℕ → List Block → List ℕ → List ℕ
  laid_one k B xs = replaced (first_of counts k * block_size) (words_of B) xs

  module _ {k : ℕ} (B : List Block) (xs : List ℕ) (named : Names counts k) (size : length xs ≡ sum_of counts * block_size) (sized : length B ≡ count_of counts k) where
    words : length (words_of B) ≡ count_of counts k * block_size
    words = words_length B ∙ ap (λ (n : ℕ). n * block_size) sized

    fits : first_of counts k * block_size + length (words_of B) ≤ length xs
    fits = let w = text_within counts k named.from_one in let e = words in omega arith

    pub one_size : length (laid_one k B xs) ≡ sum_of counts * block_size
    one_size = replaced_length (first_of counts k * block_size) (words_of B) xs fits ∙ size

    one_shape : shape_of (laid_one k B xs) ≡ replaced (first_of counts k) B (shape_of xs)
    one_shape = shape_replaced (first_of counts k) (words_of B) xs (let e = words in omega arith) fits ∙ ap (λ (s : List Block). replaced (first_of counts k) s (shape_of xs)) (shape_words B)

    -- they are read back
    one_read : numbers_in counts (laid_one k B xs) k ≡ words_of B
    one_read = ap (λ (n : ℕ). take n (drop (first_of counts k * block_size) (laid_one k B xs))) (sym words) ∙ read_there (first_of counts k * block_size) (words_of B) xs fits

    -- and another text's numbers stay
    one_other : (j : ℕ) → Names counts j → (j ≡ k → ⊥) → numbers_in counts (laid_one k B xs) j ≡ numbers_in counts xs j
    one_other j n d =
        let e = words in
        let room = fits in
        ⊎_elim
        (λ l. read_before (first_of counts j * block_size) (count_of counts j * block_size) (first_of counts k * block_size) (words_of B) xs (omega arith) (omega arith))
        (λ l. read_after (first_of counts j * block_size) (count_of counts j * block_size) (first_of counts k * block_size) (words_of B) xs (omega arith) (omega arith))
        (either_side counts j k n named d)

    -- where they stood already, nothing is changed
    one_stood : numbers_in counts xs k ≡ words_of B → laid_one k B xs ≡ xs
    one_stood e = stood_there (first_of counts k * block_size) (words_of B) xs (ap (λ (n : ℕ). take n (drop (first_of counts k * block_size) xs)) words ∙ e) fits

  -- ---- several texts

  abbrev pub laid_all : List ℕ → List (List Block) → List ℕ → List ℕ
  laid_all ks H xs = laid_over counts ks (map words_of H) xs

  pub laid_size : (ks : List ℕ) (H : List (List Block)) (xs : List ℕ) → All (Names counts) ks → Sized counts ks H → length xs ≡ sum_of counts * block_size
      → length (laid_all ks H xs) ≡ sum_of counts * block_size
  unfolding laid_over
  laid_size [] (B ∷ H) xs a x6 e = elim x6 [ ]
  laid_size (k ∷ ks) [] xs a x5 e = elim x5 [ ]
  laid_size [] [] xs a no_text e = e
  laid_size (k ∷ ks) (B ∷ H) xs (more n a) (one_text s z) e = laid_size ks H (laid_one k B xs) a z (one_size B xs n e s)

  pub laid_shape : (ks : List ℕ) (H : List (List Block)) (xs : List ℕ) → All (Names counts) ks → Sized counts ks H → length xs ≡ sum_of counts * block_size
      → shape_of (laid_all ks H xs) ≡ laid_parts counts ks H (shape_of xs)
  unfolding laid_over laid_parts
  laid_shape [] (B ∷ H) xs a x6 e = elim x6 [ ]
  laid_shape (k ∷ ks) [] xs a x5 e = elim x5 [ ]
  laid_shape [] [] xs a no_text e = refl
  laid_shape (k ∷ ks) (B ∷ H) xs (more n a) (one_text s z) e = laid_shape ks H (laid_one k B xs) a z (one_size B xs n e s) ∙ ap (laid_parts counts ks H) (one_shape B xs n e s)

  pub laid_bounded : (ks : List ℕ) (H : List (List Block)) {xs : List ℕ} → All (λ (B : List Block). Numbers (words_of B)) H → Numbers xs → Numbers (laid_all ks H xs)
  unfolding laid_over
  laid_bounded [] H a w = w
  laid_bounded (k ∷ ks) [] a w = w
  laid_bounded (k ∷ ks) (B ∷ H) (more b a) w = laid_bounded ks H a (replaced_bounded (first_of counts k * block_size) b w)

  laid_other : (j : ℕ) (ks : List ℕ) (H : List (List Block)) (xs : List ℕ) → Names counts j → Off ks j → All (Names counts) ks → Sized counts ks H → length xs ≡ sum_of counts * block_size
      → numbers_in counts (laid_all ks H xs) j ≡ numbers_in counts xs j
  unfolding laid_over
  laid_other j [] (B ∷ H) xs m o a x10 e = elim x10 [ ]
  laid_other j (k ∷ ks) [] xs m o a x7 e = elim x7 [ ]
  laid_other j [] [] xs m o a no_text e = refl
  laid_other j (k ∷ ks) (B ∷ H) xs m (more d o) (more n a) (one_text s z) e =
      laid_other j ks H (laid_one k B xs) m o a z (one_size B xs n e s) ∙ one_other B xs n e s j m (λ q. d (sym q))

  -- if all together change nothing, neither does the first of them
  first_unchanged : (k : ℕ) (ks : List ℕ) (B : List Block) (H : List (List Block)) (xs : List ℕ) → Names counts k → Off ks k → All (Names counts) ks
      → length B ≡ count_of counts k → Sized counts ks H
      → length xs ≡ sum_of counts * block_size → laid_all ks H (laid_one k B xs) ≡ xs → laid_one k B xs ≡ xs
  first_unchanged k ks B H xs n o a s z e q = one_stood B xs n e s
      (ap (λ (l : List ℕ). numbers_in counts l k) (sym q) ∙ laid_other k ks H (laid_one k B xs) n o a z (one_size B xs n e s) ∙ one_read B xs n e s)

-- ---- laid one after the other, as the code does it

-- The texts ks are laid, from the numbers xs to the numbers ys; `r` tells whether nothing was changed before, `s`
-- whether nothing is after.
pub data Lays (counts : List ℕ) : List ℕ → List (List Block) → List ℕ → List ℕ → Bool → Bool → Type 0 where
  all_laid : {xs : List ℕ} {r : Bool} → Lays counts [] [] xs xs r r
  then_lay : {k : ℕ} {ks : List ℕ} {B : List Block} {H : List (List Block)} {xs mid ys : List ℕ} {r m s : Bool} → mid ≡ laid_one counts k B xs → Tells m ((r ≡ true) × (mid ≡ xs))
      → Lays counts ks H mid ys m s → Lays counts (k ∷ ks) (B ∷ H) xs ys r s

-- nothing is changed: as before
pub tells_kept : (r : Bool) {xs ys : List ℕ} → ys ≡ xs → Tells r ((r ≡ true) × (ys ≡ xs))
tells_kept r e = record { so = λ p. (p, e); not_so = λ p q. true≢false (sym q.0 ∙ p) }

module _ {counts : List ℕ} where
  pub lays_all : {ks : List ℕ} {H : List (List Block)} {xs ys : List ℕ} {r s : Bool} → Lays counts ks H xs ys r s → ys ≡ laid_all counts ks H xs
  unfolding laid_over
  lays_all all_laid = refl
  lays_all (then_lay {ks = ks} {H = H} e t l) = lays_all l ∙ ap (laid_all counts ks H) e

  pub lays_tell : {ks : List ℕ} {H : List (List Block)} {xs ys : List ℕ} {r s : Bool} → All (Names counts) ks → Distinct ks → Sized counts ks H → length xs ≡ sum_of counts * block_size
      → Lays counts ks H xs ys r s → Tells s ((r ≡ true) × (ys ≡ xs))
  lays_tell {r = r} a d z e all_laid = tells_kept r refl
  lays_tell (more n a) (one_more o d) (one_text z g) e (then_lay {k = k} {ks = ks} {B = B} {H = H} {xs = xs} {mid = mid} {ys = ys} {m = m} f t l) =
      let rest : Tells _ ((m ≡ true) × (ys ≡ mid)) = lays_tell a d g (ap length f ∙ one_size counts B xs n e z) l in
      let first : ys ≡ xs → mid ≡ xs = λ q. f ∙ first_unchanged counts k ks B H xs n o a z g e (ap (laid_all counts ks H) (sym f) ∙ sym (lays_all l) ∙ q) in
      record {
        so = λ p. let q = rest.so p in let h = t.so q.0 in (h.0, q.1 ∙ h.1);
        not_so = λ p q. let h = first q.1 in rest.not_so p (tells_so t (q.0, h), q.1 ∙ sym h);
      }
