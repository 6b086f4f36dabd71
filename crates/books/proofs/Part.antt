-- A text's numbers are its blocks. Assumes nothing.
use mathlib.Core.Path.{◌≡◌, ap, ap₂, ◌∙◌}
use mathlib.Core.List.{List}
use Prim.Native.Nat.{ℕ, ◌-◌, ◌*◌}
use native.Mathlib.Omega.{arith}
use lib.ListN.{take, drop}
use Rattle.shapes.specs.Lent.{shape_of}
use Rattle.laying.proofs.Shapes.{shape_part}
use Rattle.shapes.specs.Shape.{block_size}
use Rattle.books.specs.declared.Range.{Range}
use Rattle.books.specs.Counts.{count_of, first_of, shape_in}
use Rattle.books.specs.Code.{RangeOf, numbers_in}

pub range_part : (counts xs : List ℕ) (k : ℕ) (r : Range) → RangeOf counts k r → take (r.to - r.from) (drop r.from xs) ≡ numbers_in counts xs k
range_part counts xs k r p =
    let e = p.to in
    let size : r.to - r.from ≡ count_of counts k * block_size = omega arith in
    ap₂ (λ (n m : ℕ). take n (drop m xs)) size p.from

pub range_shape : (counts xs : List ℕ) (k : ℕ) (r : Range) → RangeOf counts k r → shape_of (take (r.to - r.from) (drop r.from xs)) ≡ shape_in counts (shape_of xs) k
range_shape counts xs k r p = ap shape_of (range_part counts xs k r p) ∙ shape_part (first_of counts k) (count_of counts k) xs
