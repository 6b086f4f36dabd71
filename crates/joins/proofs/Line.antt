-- The numbers of two shapes end to end are those of one: the line that is joined. Assumes nothing.
use mathlib.Core.Path.{◌≡◌, sym, ap, ◌∙◌}
use mathlib.Core.List.{List, [], ◌∷◌, ◌++◌}
use Prim.Native.Nat.{ℕ, ◌+◌, ◌*◌, ◌%◌, ◌≤◌}
use native.Mathlib.Omega.{arith}
use lib.ListN.{length, take, drop, length-append, take-append-drop}
use lib.Seq.{take_at, drop_at, length-take-le}
use Rattle.shapes.specs.Shape.{Block, total, block_size, line_blocks}
use Rattle.shapes.specs.Lent.{shape_of, words_of, Whole}
use Rattle.plain.proofs.All.{all_append}
use Rattle.shapes.proofs.Lent.{shape_length, accepted_few}
use Rattle.shapes.proofs.Numbers.{words_length, words_append}
use Rattle.laying.proofs.Shapes.{shape_join}
use Rattle.joins.specs.Refused.{JoinAccepted}

pub total_join : (S T : List Block) → total (S ++ T) ≡ total S + total T
unfolding total
total_join [] T = omega arith
total_join (b ∷ S) T = let e = total_join S T in omega arith

-- the numbers of some blocks, cut after n of them
module _ (n : ℕ) (S : List Block) (within : n ≤ length S) where
  words_cut : words_of S ≡ words_of (take n S) ++ words_of (drop n S)
  words_cut = ap words_of (sym (take-append-drop n S)) ∙ words_append (take n S) (drop n S)

  pub words_first : length (words_of (take n S)) ≡ n * block_size
  words_first = words_length (take n S) ∙ ap (λ (k : ℕ). k * block_size) (length-take-le n S within)

  pub words_take : take (n * block_size) (words_of S) ≡ words_of (take n S)
  words_take = ap (take (n * block_size)) words_cut ∙ take_at (words_of (take n S)) (words_of (drop n S)) (n * block_size) words_first

  pub words_drop : drop (n * block_size) (words_of S) ≡ words_of (drop n S)
  words_drop = ap (drop (n * block_size)) words_cut ∙ drop_at (words_of (take n S)) (words_of (drop n S)) (n * block_size) words_first

-- whole blocks are so many numbers each
pub whole_length : (xs : List ℕ) → length xs % block_size ≡ 0 → length (shape_of xs) * block_size ≡ length xs
whole_length xs e = let s = shape_length xs in omega arith

module _ {xs ys zs : List ℕ} (ok : JoinAccepted xs ys zs) where
  pub line_shape : shape_of (ys ++ zs) ≡ shape_of ys ++ shape_of zs
  line_shape = shape_join ys zs ok.second.right.whole

  pub line_whole : Whole (ys ++ zs)
  line_whole = record {
    blocks = let a = ok.second.right.whole in let b = ok.third.right.whole in rw length-append (omega arith);
    sound = rw line_shape (all_append ok.second.sound ok.third.sound);
    short = rw (line_shape, total_join) ok.short;
  }

  pub line_few : length ys + length zs ≤ line_blocks * block_size
  line_few = let a = accepted_few ok.second in let b = accepted_few ok.third in omega arith
