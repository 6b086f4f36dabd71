-- Which numbers are which block: the blocks of a lent shape by index. Assumes nothing.
use mathlib.Core.Path.{◌≡◌, refl, sym, ap, ◌∙◌, subst}
use mathlib.Core.List.{List, [], ◌∷◌, map}
use Prim.Native.Nat.{ℕ, zero, suc, ◌+◌, ◌*◌, ◌^◌, ◌≤◌, ◌<◌}
use native.Mathlib.Numerals.{add-one}
use native.Mathlib.Omega.{arith}
use lib.Dec.{lit<}
use lib.ListN.{length, get_or, take, drop, drop_of_length-le, length-map, get_or-map}
use lib.Seq.{drop-cons, length-take-le}
use Rattle.plain.specs.All.{All}
use Rattle.plain.specs.All.All.{none, more}
use Rattle.plain.specs.Items.{items_of}
use Rattle.plain.proofs.All.{all_at, all_of, all_take}
use Rattle.plain.proofs.Items.{items_length, items_at, items_sized, items_all}
use Rattle.answers.specs.Told.{Told}
use Rattle.bases.specs.Base.{Word, base_of, base_words}
use Rattle.bases.proofs.Words.{words_bound}
use Rattle.shapes.specs.Shape.{Block, Sound, Small, no_block, total, block_size, block_count, most_blocks}
use Rattle.shapes.specs.Wrong.{BlockRefused}
use Rattle.shapes.specs.Lent.{Numbers, block_of, block_at, shape_of, FirstBlock, Accepted, Whole}
use Rattle.shapes.proofs.Wrong.{block_not}

pub shape_length : (xs : List ℕ) → length (shape_of xs) ≡ block_count xs
unfolding shape_of
shape_length xs = length-map (items_of block_size (block_count xs) xs) block_of ∙ items_length block_size (block_count xs) xs

pub shape_at : (xs : List ℕ) (i : ℕ) (e : Block) → i < block_count xs → get_or (shape_of xs) i e ≡ block_at xs i
unfolding shape_of
shape_at xs i e h =
    let bs = items_of block_size (block_count xs) xs in
    let within : i < length (map block_of bs) = let l = shape_length xs in omega arith in
    any_default (map block_of bs) i e (block_of []) within ∙ get_or-map block_of bs i [] ∙ ap block_of (items_at block_size (block_count xs) xs i [] h)
  where
    any_default : (l : List Block) (i : ℕ) (d e : Block) → i < length l → get_or l i d ≡ get_or l i e
    any_default [] i d e h = absurd (omega arith)
    any_default (b ∷ l) zero d e h = refl
    any_default (b ∷ l) (suc i) d e h = any_default l i d e (omega arith)

-- the blocks from block i on: block i, then those after it
pub shape_from : (xs : List ℕ) (i : ℕ) → i < block_count xs → drop i (shape_of xs) ≡ block_at xs i ∷ drop (i + 1) (shape_of xs)
shape_from xs i h =
    let within : i < length (shape_of xs) = let e = shape_length xs in omega arith in
    drop-cons (shape_of xs) i (block_at xs i) within ∙ ap (λ (b : Block). b ∷ drop (suc i) (shape_of xs)) (shape_at xs i (block_at xs i) h)
    ∙ ap (λ (n : ℕ). block_at xs i ∷ drop n (shape_of xs)) (sym (add-one i))

-- past the last block none is left
pub none_left : (xs : List ℕ) → drop (block_count xs) (shape_of xs) ≡ []
none_left xs = let past : length (shape_of xs) ≤ block_count xs = let e = shape_length xs in omega arith in drop_of_length-le (shape_of xs) past

-- ---- the blocks by number, and as a list

pub all_sound : (xs : List ℕ) → ((i : ℕ) → i < block_count xs → Sound (block_at xs i)) → All Sound (shape_of xs)
all_sound xs h = all_of (shape_of xs) no_block
    (λ i l. let e = shape_length xs in let b : i < block_count xs = omega arith in subst Sound (sym (shape_at xs i no_block b)) (h i b))

-- where those before it are sound, a block that is refused is the first
pub first_block : (n : ℕ) (xs : List ℕ) (i : ℕ) {t : Told} → i < block_count xs → ((j : ℕ) → j < i → Sound (block_at xs j)) → BlockRefused n (i + 1) (block_at xs i) t
    → FirstBlock n (shape_of xs) (i + 1) t
first_block n xs i {t} w g r =
    let e = shape_length xs in
    let here = shape_at xs i no_block w in
    record {
      first = record {
        before = i;
        place = refl;
        within = omega arith;
        good = λ j h. subst Sound (sym (shape_at xs j no_block (omega arith))) (g j h);
        bad = λ s. block_not r (subst Sound here s);
      };
      refused = subst (λ (b : Block). BlockRefused n (i + 1) b t) (sym here) r;
    }

-- ---- the uppers still ahead

pub total_from : (xs : List ℕ) (i : ℕ) → i < block_count xs → total (drop i (shape_of xs)) ≡ (block_at xs i).upper + total (drop (i + 1) (shape_of xs))
unfolding total
total_from xs i h = ap total (shape_from xs i h)

-- sound blocks have a small total
pub sound_total : {s : List Block} → All Sound s → total s ≤ length s * 250
unfolding total
sound_total none = omega arith
sound_total (more h g) = let u = h.small in let t = sound_total g in omega arith

pub total_none : (xs : List ℕ) (i : ℕ) → block_count xs ≤ i → total (drop i (shape_of xs)) ≡ 0
unfolding total
total_none xs i h = let past : length (shape_of xs) ≤ i = let e = shape_length xs in omega arith in ap total (drop_of_length-le (shape_of xs) past)

pub block_sound : (xs : List ℕ) (i : ℕ) → i < block_count xs → All Sound (shape_of xs) → Sound (block_at xs i)
block_sound xs i h g = subst Sound (shape_at xs i (block_at xs i) h) (all_at (block_at xs i) g i (let e = shape_length xs in omega arith))

-- the bases of 64-bit numbers have only characters that there are
pub small_block : {x : List ℕ} → All Word x → length x ≡ block_size → Small (block_of x)
small_block {x} g e =
    let n = length-take-le base_words x (omega arith) in
    subst (λ (k : ℕ). base_of (take base_words x) < 2 ^ (k * 64)) n (words_bound (all_take base_words g))

pub small_bases : (xs : List ℕ) → Numbers xs → All Small (shape_of xs)
unfolding shape_of
small_bases xs g = all_mapped (items_all block_size (block_count xs) (lit< tt) g) (items_sized block_size (block_count xs) xs)
  where
    all_mapped : {l : List (List ℕ)} → All (All Word) l → All (λ (x : List ℕ). length x ≡ block_size) l → All Small (map block_of l)
    all_mapped none none = none
    all_mapped (more w g) (more e s) = more (small_block w e) (all_mapped g s)

-- ---- accepted numbers are whole, and few

pub accepted_whole : {xs : List ℕ} → Accepted xs → Whole xs
accepted_whole a = record { blocks = a.right.whole; sound = a.sound; short = a.short }

pub accepted_few : {xs : List ℕ} → Accepted xs → length xs ≤ most_blocks * block_size
accepted_few a = let n = a.right.few in let w = a.right.whole in omega arith
