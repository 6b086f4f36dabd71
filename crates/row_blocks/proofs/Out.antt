-- The output, put together from its blocks. Assumes nothing.
use mathlib.Core.Path.{◌≡◌}
use mathlib.Core.List.{List, ◌++◌}
use Prim.Native.Nat.{ℕ, ◌%◌, ◌^◌, ◌≤◌, ◌<◌}
use native.Mathlib.Omega.{arith}
use lib.ListN.{length, get_or, take, drop}
use Rattle.shapes.specs.Shape.{Block, no_block, block_size, block_count}
use Rattle.shapes.specs.Lent.{block_at, shape_of, words_of}
use Rattle.shapes.proofs.Front.{front_size, front_at, front_out}
use Rattle.sets.specs.declared.Set.{Set}
use Rattle.row_blocks.specs.Blocks.{ToldTo}

module _ (xs o o' : List ℕ) (whole : length xs % block_size ≡ 0) (room : length xs ≤ length o) {chars : List Set} {quit moved : ℕ}
    (s : ToldTo chars quit moved xs (block_count xs) o o') where
  abbrev pub narrowed : List Block
  narrowed = shape_of (take (length xs) o')

  room_after : length xs ≤ length o'
  room_after = let e = s.long in omega arith

  pub narrowed_size : length narrowed ≡ length (shape_of xs)
  narrowed_size = front_size xs o' room_after

  pub narrowed_at : (i : ℕ) → i < block_count xs → get_or narrowed i no_block ≡ block_at o' i
  narrowed_at = front_at xs o' room_after

  -- the output is its new blocks, and what it had past them
  pub narrowed_out : ((k : ℕ) → get_or o' k 0 < 2 ^ 64) → o' ≡ words_of narrowed ++ drop (length xs) o
  narrowed_out = front_out xs o o' whole room s.long (λ k h. s.kept k (omega arith))
