-- The blocks of a lent shape one after the other. Assumes nothing.
use mathlib.Core.Path.{◌≡◌, sym, ap, ◌∙◌}
use mathlib.Core.List.{List, [], ◌∷◌, ◌++◌}
use Prim.Native.Nat.{ℕ, ◌+◌, ◌<◌}
use native.Mathlib.Numerals.{add-one}
use native.Mathlib.Omega.{arith}
use lib.ListN.{take}
use lib.Seq.{take-suc, take_all}
use Rattle.shapes.specs.Shape.{Block, no_block, block_count}
use Rattle.shapes.specs.Lent.{shape_of, block_at}
use Rattle.shapes.proofs.Lent.{shape_length, shape_at}

pub take_more : (xs : List ℕ) (i : ℕ) (b : Block) → i < block_count xs → b ≡ block_at xs i → take i (shape_of xs) ++ (b ∷ []) ≡ take (i + 1) (shape_of xs)
take_more xs i b l e =
    let n = shape_length xs in
    ap (λ (x : Block). take i (shape_of xs) ++ (x ∷ [])) (e ∙ sym (shape_at xs i no_block l)) ∙ sym (take-suc (shape_of xs) i no_block (omega arith)) ∙ ap (λ (k : ℕ). take k (shape_of xs)) (sym (add-one i))

pub take_whole : (xs : List ℕ) (i : ℕ) → i ≡ block_count xs → take i (shape_of xs) ≡ shape_of xs
take_whole xs i e = let n = shape_length xs in take_all i (shape_of xs) (omega arith)
