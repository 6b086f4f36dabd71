-- A part of lent numbers is a part of the blocks, and numbers laid over a part are blocks laid over a part. Assumes
-- nothing.
use mathlib.Core.Path.{◌≡◌, sym, ap, ap₂, ◌∙◌}
use mathlib.Core.List.{List, ◌++◌, map}
use Prim.Native.Nat.{ℕ, ◌+◌, ◌-◌, ◌*◌, ◌%◌, ◌^◌, ◌≤◌, ◌<◌}
use native.Mathlib.Omega.{arith}
use lib.ListN.{length, get_or, take, drop, length-append, length-take, length-drop}
use lib.Seq.{length-take-le, ext_get_or, get_or-take, get_or-drop}
use Rattle.plain.specs.All.{All}
use Rattle.plain.specs.All.All.{none, more}
use Rattle.plain.specs.Items.{numbers_at, items_of, join_items}
use Rattle.plain.proofs.All.{all_append, all_take, all_drop}
use Rattle.plain.proofs.Items.{numbers_same, numbers_drop, items_join, map_join}
use Rattle.bases.specs.Base.{base_words}
use Rattle.bases.proofs.Words.{words_small}
use Rattle.shapes.specs.Shape.{Block, Sound, Small, no_block, block_size, block_count}
use Rattle.shapes.specs.Lent.{Numbers, block_of, shape_of, words_of}
use Rattle.shapes.proofs.Lent.{shape_length, shape_at}
use Rattle.shapes.proofs.Numbers.{words_shape}
use Rattle.laying.specs.Laid.{replaced}

-- ---- parts

pub shape_drop : (m : ℕ) (xs : List ℕ) → shape_of (drop (m * block_size) xs) ≡ drop m (shape_of xs)
shape_drop m xs = ext_get_or no_block (shape_of rest) (drop m (shape_of xs)) long same
  where
    rest : List ℕ
    rest = drop (m * block_size) xs

    long : length (shape_of rest) ≡ length (drop m (shape_of xs))
    long =
        let r = shape_length rest in
        let l = length-drop (m * block_size) xs in
        let s = shape_length xs in
        let d = length-drop m (shape_of xs) in
        omega arith

    same : (i : ℕ) → i < length (shape_of rest) → get_or (shape_of rest) i no_block ≡ get_or (drop m (shape_of xs)) i no_block
    same i h =
        let r = shape_length rest in
        let l = length-drop (m * block_size) xs in
        let place : m * block_size + i * block_size ≡ (m + i) * block_size = omega arith in
        shape_at rest i no_block (omega arith) ∙ ap block_of (numbers_drop block_size (m * block_size) xs (i * block_size) ∙ ap (numbers_at block_size xs) place)
        ∙ sym (shape_at xs (m + i) no_block (omega arith)) ∙ sym (get_or-drop m (shape_of xs) i no_block)

pub shape_take : (m : ℕ) (xs : List ℕ) → shape_of (take (m * block_size) xs) ≡ take m (shape_of xs)
shape_take m xs = ext_get_or no_block (shape_of front) (take m (shape_of xs)) long same
  where
    front : List ℕ
    front = take (m * block_size) xs

    long : length (shape_of front) ≡ length (take m (shape_of xs))
    long =
        let r = shape_length front in
        let l = length-take (m * block_size) xs in
        let s = shape_length xs in
        let d = length-take m (shape_of xs) in
        omega arith

    same : (i : ℕ) → i < length (shape_of front) → get_or (shape_of front) i no_block ≡ get_or (take m (shape_of xs)) i no_block
    same i h =
        let r = shape_length front in
        let l = length-take (m * block_size) xs in
        shape_at front i no_block (omega arith)
        ∙ ap block_of (numbers_same block_size front xs (i * block_size) (i * block_size) (λ j k. get_or-take (m * block_size) xs (i * block_size + j) 0 (omega arith)))
        ∙ sym (shape_at xs i no_block (omega arith)) ∙ sym (get_or-take m (shape_of xs) i no_block (omega arith))

pub shape_part : (m n : ℕ) (xs : List ℕ) → shape_of (take (n * block_size) (drop (m * block_size) xs)) ≡ take n (drop m (shape_of xs))
shape_part m n xs = shape_take n (drop (m * block_size) xs) ∙ ap (take n) (shape_drop m xs)

-- ---- whole blocks end to end

pub shape_join : (xs ys : List ℕ) → length xs % block_size ≡ 0 → shape_of (xs ++ ys) ≡ shape_of xs ++ shape_of ys
unfolding shape_of
shape_join xs ys e =
    let n : block_count (xs ++ ys) ≡ block_count xs + block_count ys = let l = length-append xs ys in omega arith in
    ap (λ (k : ℕ). map block_of (items_of block_size k (xs ++ ys))) n
    ∙ ap (map block_of) (items_join block_size (block_count xs) (block_count ys) xs ys (omega arith))
    ∙ map_join block_of (items_of block_size (block_count xs) xs) (items_of block_size (block_count ys) ys)

-- ---- laid over a part

pub shape_replaced : (m : ℕ) (ws xs : List ℕ) → length ws % block_size ≡ 0 → m * block_size + length ws ≤ length xs
    → shape_of (replaced (m * block_size) ws xs) ≡ replaced m (shape_of ws) (shape_of xs)
shape_replaced m ws xs e h =
    let front : length (take (m * block_size) xs) ≡ m * block_size = length-take-le (m * block_size) xs (omega arith) in
    let past : m * block_size + length ws ≡ (m + length (shape_of ws)) * block_size = let s = shape_length ws in omega arith in
    shape_join (take (m * block_size) xs) _ (omega arith)
    ∙ ap₂ ◌++◌ (shape_take m xs)
    (shape_join ws _ e ∙ ap (λ (s : List Block). shape_of ws ++ s) (ap (λ (n : ℕ). shape_of (drop n xs)) past ∙ shape_drop (m + length (shape_of ws)) xs))

-- whole blocks of 64-bit numbers are the same numbers if they are the same blocks
pub same_numbers : (xs ys : List ℕ) → length xs % block_size ≡ 0 → length ys % block_size ≡ 0 → Numbers xs → Numbers ys
    → shape_of xs ≡ shape_of ys → xs ≡ ys
same_numbers xs ys e f a b s = sym (words_shape xs e a) ∙ ap words_of s ∙ words_shape ys f b

-- the numbers of sound blocks, of characters that there are, are 64-bit numbers
pub words_bounded : {S : List Block} → All Small S → All Sound S → Numbers (words_of S)
unfolding words_of join_items
words_bounded none none = none
words_bounded (more {a = b} m k) (more s t) =
    let o = s.ordered in
    let u = s.small in
    let lower : b.lower < 2 ^ 64 = omega arith in
    let upper : b.upper < 2 ^ 64 = omega arith in
    all_append (all_append (words_small (base_words - 1) b.base m) (more lower (more upper none))) (words_bounded k t)

-- what is laid over 64-bit numbers
pub replaced_bounded : (m : ℕ) {x l : List ℕ} → Numbers x → Numbers l → Numbers (replaced m x l)
replaced_bounded m {x} {l} p q = all_append (all_take m q) (all_append p (all_drop (m + length x) q))
