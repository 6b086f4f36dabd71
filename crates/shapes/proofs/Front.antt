-- The blocks at the front of an output: as many numbers as xs has, and what the output had past them. Assumes nothing.
use mathlib.Core.Path.{◌≡◌, sym, ap, ap₂, ◌∙◌, subst}
use mathlib.Core.List.{List, ◌++◌}
use Prim.Native.Nat.{ℕ, ◌+◌, ◌-◌, ◌*◌, ◌/◌, ◌%◌, ◌^◌, ◌≤◌, ◌<◌}
use native.Mathlib.Omega.{arith}
use lib.ListN.{length, get_or, take, drop, length-drop, take-append-drop}
use lib.Seq.{ext_get_or, get_or-take, get_or-drop, length-take-le, take_at}
use Rattle.plain.proofs.All.{all_of}
use Rattle.plain.proofs.Items.{numbers_same}
use Rattle.shapes.specs.Shape.{Block, no_block, block_size, block_count}
use Rattle.shapes.specs.Lent.{block_of, block_at, shape_of, words_of, Accepted}
use Rattle.shapes.proofs.Lent.{shape_length, shape_at}
use Rattle.shapes.proofs.Numbers.{words_shape, shape_words, words_length}

module _ (xs o : List ℕ) (room : length xs ≤ length o) where
  pub front_length : length (take (length xs) o) ≡ length xs
  front_length = length-take-le (length xs) o room

  pub front_size : length (shape_of (take (length xs) o)) ≡ length (shape_of xs)
  front_size = shape_length (take (length xs) o) ∙ ap (λ (n : ℕ). n / block_size) front_length ∙ sym (shape_length xs)

  pub front_at : (i : ℕ) → i < block_count xs → get_or (shape_of (take (length xs) o)) i no_block ≡ block_at o i
  front_at i h = shape_at (take (length xs) o) i no_block (let e = front_length in omega arith)
      ∙ ap block_of (numbers_same block_size (take (length xs) o) o (i * block_size) (i * block_size) (λ j l. get_or-take (length xs) o (i * block_size + j) 0 (omega arith)))

-- an output whose numbers past its front are those of another is its blocks, and what the other had past them
module _ (xs o o' : List ℕ) (whole : length xs % block_size ≡ 0) (room : length xs ≤ length o) (long : length o' ≡ length o)
    (kept : (k : ℕ) → length xs ≤ k → get_or o' k 0 ≡ get_or o k 0) where
  pub front_out : ((k : ℕ) → get_or o' k 0 < 2 ^ 64) → o' ≡ words_of (shape_of (take (length xs) o')) ++ drop (length xs) o
  front_out fits = sym (take-append-drop (length xs) o') ∙ ap₂ ◌++◌ (sym words) rest
    where
      taken : length (take (length xs) o') ≡ length xs
      taken = front_length xs o' (omega arith)

      words : words_of (shape_of (take (length xs) o')) ≡ take (length xs) o'
      words = words_shape (take (length xs) o') (let e = taken in omega arith)
          (all_of (take (length xs) o') 0 (λ k h. subst (λ (v : ℕ). v < 2 ^ 64) (sym (get_or-take (length xs) o' k 0 (let e = taken in omega arith))) (fits k)))

      rest : drop (length xs) o' ≡ drop (length xs) o
      rest = ext_get_or 0 (drop (length xs) o') (drop (length xs) o)
          (length-drop (length xs) o' ∙ ap (λ (n : ℕ). n - length xs) long ∙ sym (length-drop (length xs) o))
          (λ k h. get_or-drop (length xs) o' k 0 ∙ kept (length xs + k) (omega arith) ∙ sym (get_or-drop (length xs) o k 0))

-- the numbers, and the shape, at the start of an output
pub written_words : {xs : List ℕ} → Accepted xs → (S : List Block) (o o' : List ℕ) → length S ≡ length (shape_of xs) → o' ≡ words_of S ++ o
    → take (length xs) o' ≡ words_of S
written_words {xs} a S o o' e f =
    ap (take (length xs)) f
    ∙ take_at (words_of S) o (length xs) (let w = words_length S in let l = shape_length xs in let whole = a.right.whole in omega arith)

pub written_shape : {xs : List ℕ} → Accepted xs → (S : List Block) (o o' : List ℕ) → length S ≡ length (shape_of xs) → o' ≡ words_of S ++ o
    → shape_of (take (length xs) o') ≡ S
written_shape a S o o' e f = ap shape_of (written_words a S o o' e f) ∙ shape_words S
