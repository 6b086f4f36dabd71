-- The numbers of a shape and the shape of some numbers undo each other. Assumes nothing.
use mathlib.Core.Path.{◌≡◌, refl, sym, ap, ap₂, ◌∙◌}
use mathlib.Core.List.{List, [], ◌∷◌, ◌++◌, map}
use Prim.Native.Nat.{ℕ, ◌+◌, ◌-◌, ◌*◌, ◌%◌}
use native.Mathlib.Omega.{arith}
use lib.Dec.{lit<}
use lib.ListN.{length, get_or, take, drop, length-append, length-drop, length-map, take-append-drop}
use lib.Seq.{take_at, drop_at, get_or-drop, length-take-le, take_all}
use Rattle.plain.specs.All.{All}
use Rattle.plain.specs.All.All.{none, more}
use Rattle.plain.specs.Items.{items_of, join_items}
use Rattle.plain.proofs.All.{all_take}
use Rattle.plain.proofs.Items.{numbers_taken, items_sized, items_all, items_back, join_back, join_length, join_append, map_join}
use Rattle.bases.specs.Base.{Word, base_of, words_in, base_words}
use Rattle.bases.proofs.Words.{words_count, base_back, words_back}
use Rattle.shapes.specs.Shape.{Block, block_size, block_count}
use Rattle.shapes.specs.Lent.{Numbers, block_of, block_numbers, shape_of, words_of}

-- ---- one block

pub numbers_count : (b : Block) → length (block_numbers b) ≡ block_size
numbers_count b = let a = length-append (words_in base_words b.base) (b.lower ∷ (b.upper ∷ [])) in let n = words_count base_words b.base in omega arith

pub block_numbers_lem : (b : Block) → block_of (block_numbers b) ≡ b
block_numbers_lem b = λ i. record { base = base i; lower = lower i; upper = upper i }
  where
    words : List ℕ
    words = words_in base_words b.base

    base : base_of (take base_words (block_numbers b)) ≡ b.base
    base = ap base_of (take_at words (b.lower ∷ (b.upper ∷ [])) base_words (words_count base_words b.base)) ∙ base_back (base_words - 1) b.base

    ends : drop base_words (block_numbers b) ≡ b.lower ∷ (b.upper ∷ [])
    ends = drop_at words (b.lower ∷ (b.upper ∷ [])) base_words (words_count base_words b.base)

    lower : get_or (block_numbers b) base_words 0 ≡ b.lower
    lower = sym (get_or-drop base_words (block_numbers b) 0 0) ∙ ap (λ (l : List ℕ). get_or l 0 0) ends

    upper : get_or (block_numbers b) (base_words + 1) 0 ≡ b.upper
    upper = sym (get_or-drop base_words (block_numbers b) 1 0) ∙ ap (λ (l : List ℕ). get_or l 1 0) ends

pub numbers_block : {x : List ℕ} → All Word x → length x ≡ block_size → block_numbers (block_of x) ≡ x
numbers_block {x} g e = ap₂ ◌++◌ (words_back (base_words - 1) (all_take base_words g) (length-take-le base_words x (omega arith))) ends ∙ take-append-drop base_words x
  where
    ends : get_or x base_words 0 ∷ (get_or x (base_words + 1) 0 ∷ []) ≡ drop base_words x
    ends =
        let n = length-drop base_words x in
        (λ i. sym (get_or-drop base_words x 0 0) i ∷ (sym (get_or-drop base_words x 1 0) i ∷ []))
        ∙ numbers_taken 2 (drop base_words x) (omega arith) ∙ take_all 2 (drop base_words x) (omega arith)

-- ---- a shape

sized : (s : List Block) → All (λ (x : List ℕ). length x ≡ block_size) (map block_numbers s)
sized [] = none
sized (b ∷ s) = more (numbers_count b) (sized s)

pub words_length : (s : List Block) → length (words_of s) ≡ length s * block_size
unfolding words_of
words_length s = join_length block_size (sized s) ∙ ap (λ (n : ℕ). n * block_size) (length-map s block_numbers)

pub words_append : (s t : List Block) → words_of (s ++ t) ≡ words_of s ++ words_of t
unfolding words_of
words_append s t = ap join_items (map_join block_numbers s t) ∙ join_append (map block_numbers s) (map block_numbers t)

pub shape_words : (s : List Block) → shape_of (words_of s) ≡ s
unfolding shape_of words_of
shape_words s =
    let n : block_count (join_items (map block_numbers s)) ≡ length (map block_numbers s) = let j = join_length block_size (sized s) in omega arith in
    ap (λ (k : ℕ). map block_of (items_of block_size k (join_items (map block_numbers s)))) n ∙ ap (map block_of) (items_back block_size (sized s)) ∙ each s
  where
    each : (s : List Block) → map block_of (map block_numbers s) ≡ s
    each [] = refl
    each (b ∷ s) = ap₂ ◌∷◌ (block_numbers_lem b) (each s)

-- of whole blocks of 64-bit numbers
pub words_shape : (xs : List ℕ) → length xs % block_size ≡ 0 → Numbers xs → words_of (shape_of xs) ≡ xs
unfolding shape_of words_of
words_shape xs e g =
    ap join_items (each (items_all block_size (block_count xs) (lit< tt) g) (items_sized block_size (block_count xs) xs))
    ∙ join_back block_size (block_count xs) xs (omega arith)
  where
    each : {l : List (List ℕ)} → All (All Word) l → All (λ (x : List ℕ). length x ≡ block_size) l → map block_numbers (map block_of l) ≡ l
    each none none = refl
    each (more w g) (more e s) = ap₂ ◌∷◌ (numbers_block w e) (each g s)
