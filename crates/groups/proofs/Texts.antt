-- Parts of all blocks, text by text: blocks, or their numbers, are the same if each text's are; parts of a known size
-- are told from their join. Assumes nothing.
use mathlib.Core.Path.{◌≡◌, refl, sym, ap, ap₂, ◌∙◌, subst, subst₂}
use mathlib.Core.List.{List, [], ◌∷◌, ◌++◌}
use mathlib.Core.Logic.{⊎_elim}
use Prim.Native.Nat.{ℕ, suc, ◌+◌, ◌-◌, ◌*◌, ◌≤◌, ◌<◌}
use native.Mathlib.Nat.{zero-mul, mul-one, add-mul}
use native.Mathlib.Omega.{arith}
use lib.ListN.{length, get_or, take, drop, length-drop, take-append-drop}
use lib.Seq.{take_at, drop_at, drop-drop, length-take-le}
use Rattle.plain.specs.All.{All, more}
use Rattle.hulls.specs.Book.{Within}
use Rattle.hulls.proofs.Order.{within_join}
use Rattle.hulls.proofs.Places.{Off}
use Rattle.laying.specs.Laid.{replaced}
use Rattle.laying.proofs.Laid.{replaced_length, read_before, read_after}
use Rattle.shapes.specs.Shape.{Block, block_size}
use Rattle.shapes.specs.Lent.{Numbers, shape_of, words_of}
use Rattle.shapes.proofs.Numbers.{words_length, words_append, words_shape}
use Rattle.plain.proofs.All.{all_take, all_drop}
use Rattle.books.specs.Counts.{sum_of, count_of, first_of, shape_in}
use Rattle.books.specs.Code.{numbers_in}
use Rattle.books.specs.Rules.{Names}
use Rattle.books.proofs.Sums.{text_within}
use Rattle.book_steps.specs.Step.{Standing}
use Rattle.book_steps.proofs.Standing.{text_shape, text_size}
use Rattle.book_steps.proofs.Parts.{join_all, either_side, part_of, laid_parts, Sized, no_text, one_text}

module _ {A : Type 0} where
  -- u elements to a block
  by_texts : (u : ℕ) (cs : List ℕ) (l m : List A) → length l ≡ sum_of cs * u → length m ≡ sum_of cs * u
      → ((i : ℕ) → i < length cs → take (get_or cs i 0 * u) (drop (sum_of (take i cs) * u) l) ≡ take (get_or cs i 0 * u) (drop (sum_of (take i cs) * u) m)) → l ≡ m
  unfolding sum_of
  by_texts u [] [] [] e f g = refl
  by_texts u [] [] (b ∷ m) e f g = absurd (let z = zero-mul u in omega arith)
  by_texts u [] (a ∷ l) m e f g = absurd (let z = zero-mul u in omega arith)
  by_texts u (c ∷ cs) l m e f g =
      sym (take-append-drop (c * u) l) ∙ ap₂ ◌++◌ (first l ∙ g 0 (omega arith) ∙ sym (first m)) (by_texts u cs (drop (c * u) l) (drop (c * u) m) (rest l e) (rest m f)
      (λ i h. ap (take (get_or cs i 0 * u)) (behind i l) ∙ g (suc i) (omega arith) ∙ ap (take (get_or cs i 0 * u)) (sym (behind i m)))) ∙ take-append-drop (c * u) m
    where
      first : (x : List A) → take (c * u) x ≡ take (c * u) (drop (0 * u) x)
      first x = ap (λ (n : ℕ). take (c * u) (drop n x)) (sym (zero-mul u))

      rest : (x : List A) → length x ≡ (c + sum_of cs) * u → length (drop (c * u) x) ≡ sum_of cs * u
      rest x e = length-drop (c * u) x ∙ (let d = add-mul c (sum_of cs) u in omega arith)

      behind : (i : ℕ) (x : List A) → drop (sum_of (take i cs) * u) (drop (c * u) x) ≡ drop ((c + sum_of (take i cs)) * u) x
      behind i x = drop-drop (sum_of (take i cs) * u) (c * u) x ∙ ap (λ (n : ℕ). drop n x) (sym (add-mul c (sum_of (take i cs)) u))

  same_by : (u : ℕ) (counts : List ℕ) (l m : List A) → length l ≡ sum_of counts * u → length m ≡ sum_of counts * u
      → ((k : ℕ) → Names counts k → take (count_of counts k * u) (drop (first_of counts k * u) l) ≡ take (count_of counts k * u) (drop (first_of counts k * u) m)) → l ≡ m
  same_by u counts l m e f g = by_texts u counts l m e f
      (λ i h. let back : suc i - 1 ≡ i = omega arith in
      ap (λ (j : ℕ). take (get_or counts j 0 * u) (drop (sum_of (take j counts) * u) l)) (sym back)
      ∙ g (suc i) (record { from_one = omega arith; within = omega arith })
      ∙ ap (λ (j : ℕ). take (get_or counts j 0 * u) (drop (sum_of (take j counts) * u) m)) back)

  -- blocks are the same if each text's are
  pub same_by_texts : (counts : List ℕ) (l m : List A) → length l ≡ sum_of counts → length m ≡ sum_of counts
      → ((k : ℕ) → Names counts k → part_of counts k l ≡ part_of counts k m) → l ≡ m
  same_by_texts counts l m e f g = same_by 1 counts l m (omega arith) (omega arith) (λ k n. one k l ∙ g k n ∙ sym (one k m))
    where
      one : (k : ℕ) (x : List A) → take (count_of counts k * 1) (drop (first_of counts k * 1) x) ≡ part_of counts k x
      one k x = ap₂ (λ (i j : ℕ). take i (drop j x)) (mul-one (count_of counts k)) (mul-one (first_of counts k))

  -- lists of known sizes are told from their join
  pub told_apart : {counts ks : List ℕ} {xs ys : List (List A)} → Sized counts ks xs → Sized counts ks ys → join_all xs ≡ join_all ys → xs ≡ ys
  unfolding join_all
  told_apart no_text no_text e = refl
  told_apart {counts} (one_text {k} {x} {xs = xs} p s) (one_text {x = y} {xs = ys} q t) e =
      ap₂ ◌∷◌ (sym (take_at x (join_all xs) (count_of counts k) p) ∙ ap (take (count_of counts k)) e ∙ take_at y (join_all ys) (count_of counts k) q)
      (told_apart s t (sym (drop_at x (join_all xs) (count_of counts k) p) ∙ ap (drop (count_of counts k)) e ∙ drop_at y (join_all ys) (count_of counts k) q))

  -- what is laid over some texts leaves the others
  pub laid_off : (counts : List ℕ) (j : ℕ) (ks : List ℕ) (xs : List (List A)) (l : List A) → Names counts j → Off ks j → All (Names counts) ks → Sized counts ks xs
      → length l ≡ sum_of counts → part_of counts j (laid_parts counts ks xs l) ≡ part_of counts j l
  unfolding laid_parts
  laid_off counts j [] (x ∷ xs) l m o a x11 e = elim x11 [ ]
  laid_off counts j (k ∷ ks) [] l m o a x7 e = elim x7 [ ]
  laid_off counts j [] [] l m o a no_text e = refl
  laid_off counts j (k ∷ ks) (x ∷ xs) l m (more d o) (more n a) (one_text s z) e =
      let w = text_within counts k n.from_one in
      let fits : first_of counts k + length x ≤ length l = omega arith in
      laid_off counts j ks xs (replaced (first_of counts k) x l) m o a z (replaced_length (first_of counts k) x l fits ∙ e)
      ∙ ⊎_elim
      (λ h. read_before (first_of counts j) (count_of counts j) (first_of counts k) x l h (omega arith))
      (λ h. read_after (first_of counts j) (count_of counts j) (first_of counts k) x l (omega arith) (omega arith))
      (either_side counts j k m n (λ q. d (sym q)))

-- numbers are the same if each text's are
pub same_numbers_by_texts : (counts xs ys : List ℕ) → length xs ≡ sum_of counts * block_size → length ys ≡ sum_of counts * block_size
    → ((k : ℕ) → Names counts k → numbers_in counts xs k ≡ numbers_in counts ys k) → xs ≡ ys
same_numbers_by_texts = same_by block_size

-- a text's numbers among those of blocks
pub text_words : (counts : List ℕ) (F : List Block) (k : ℕ) → Names counts k → length F ≡ sum_of counts → numbers_in counts (words_of F) k ≡ words_of (shape_in counts F k)
text_words counts F k n e =
    let w = text_within counts k n.from_one in
    let m = first_of counts k in
    let c = count_of counts k in
    let front : length (words_of (take m F)) ≡ m * block_size
    = words_length (take m F) ∙ ap (λ (i : ℕ). i * block_size) (length-take-le m F (omega arith)) in
    let behind : drop (m * block_size) (words_of F) ≡ words_of (drop m F) =
    ap (drop (m * block_size)) (ap words_of (sym (take-append-drop m F)) ∙ words_append (take m F) (drop m F)) ∙ drop_at (words_of (take m F)) (words_of (drop m F)) (m * block_size) front in
    let rest = length-drop m F in
    let text : length (words_of (take c (drop m F))) ≡ c * block_size
    = words_length (take c (drop m F)) ∙ ap (λ (i : ℕ). i * block_size) (length-take-le c (drop m F) (omega arith)) in
    ap (take (c * block_size)) (behind ∙ ap words_of (sym (take-append-drop c (drop m F))) ∙ words_append (take c (drop m F)) (drop c (drop m F)))
    ∙ take_at (words_of (take c (drop m F))) (words_of (drop c (drop m F))) (c * block_size) text

-- a text's own numbers are those of its shape
pub text_numbers : {counts xs : List ℕ} → Standing counts xs → Numbers xs → (k : ℕ) → Names counts k → words_of (shape_in counts (shape_of xs) k) ≡ numbers_in counts xs k
text_numbers {counts} {xs} d b k n =
    let size = text_size d k n.from_one in
    ap words_of (sym (text_shape d k))
    ∙ words_shape (numbers_in counts xs k) (omega arith) (all_take (count_of counts k * block_size) (all_drop (first_of counts k * block_size) b))

-- blocks are within others if each text's are
within_texts : (cs : List ℕ) (A B : List Block) → length A ≡ sum_of cs → length B ≡ sum_of cs
    → ((i : ℕ) → i < length cs → Within (take (get_or cs i 0) (drop (sum_of (take i cs)) A)) (take (get_or cs i 0) (drop (sum_of (take i cs)) B))) → Within A B
unfolding sum_of
within_texts [] [] [] e f g = Within.end
within_texts [] [] (b ∷ B) e f g = absurd (omega arith)
within_texts [] (a ∷ A) B e f g = absurd (omega arith)
within_texts (c ∷ cs) A B e f g =
    subst₂ Within (take-append-drop c A) (take-append-drop c B)
    (within_join (g 0 (omega arith))
    (within_texts cs (drop c A) (drop c B) (length-drop c A ∙ omega arith) (length-drop c B ∙ omega arith)
    (λ i h. subst₂ (λ (x y : List Block). Within (take (get_or cs i 0) x) (take (get_or cs i 0) y)) (sym (drop-drop (sum_of (take i cs)) c A)) (sym (drop-drop (sum_of (take i cs)) c B))
    (g (suc i) (omega arith)))))

pub within_by_texts : (counts : List ℕ) (A B : List Block) → length A ≡ sum_of counts → length B ≡ sum_of counts
    → ((k : ℕ) → Names counts k → Within (shape_in counts A k) (shape_in counts B k)) → Within A B
within_by_texts counts A B e f g = within_texts counts A B e f
    (λ i h. let back : suc i - 1 ≡ i = omega arith in
    subst (λ (j : ℕ). Within (take (get_or counts j 0) (drop (sum_of (take j counts)) A)) (take (get_or counts j 0) (drop (sum_of (take j counts)) B))) back
    (g (suc i) (record { from_one = omega arith; within = omega arith })))
