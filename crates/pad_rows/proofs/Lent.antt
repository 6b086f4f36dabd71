-- A shape lent as numbers and laid out in rows, as the laws of reading over padding ask for it. Assumes nothing.
use mathlib.Core.Path.{◌≡◌, sym, ap, ◌∙◌, subst}
use mathlib.Core.Bool.{Bool}
use mathlib.Core.List.{List}
use Prim.Native.Nat.{ℕ, ◌+◌, ◌≤◌, ◌<◌}
use native.Mathlib.Omega.{arith}
use lib.ListN.{length, get_or}
use Rattle.bases.specs.Base.{Meets}
use Rattle.plain.specs.Tells.{Tells}
use Rattle.shapes.specs.Shape.{Block, no_block, total, block_count}
use Rattle.shapes.specs.Lent.{shape_of, block_at}
use Rattle.shapes.proofs.Lent.{shape_length, shape_at}
use Rattle.walks.proofs.Fillings.{total_take}
use Rattle.rows.specs.declared.LaidBlock.{LaidBlock}
use Rattle.rows.specs.Row.{zone_in, end_in, slot_in}
use Rattle.row_lay.specs.Lay.{start, end, Lay}
use Rattle.row_lay.proofs.Laid.{past_all, total_more}
use Rattle.pads.specs.Pad.{padded_at}
use Rattle.pads.proofs.Paths.{padded_slot, padded_end, ended}
use Rattle.row_paths.proofs.Shapes.{padded_block}
use Rattle.pad_rows.proofs.Along.{Bare, BlockRows}

-- the end of a shape
pub bare : (pad : ℕ) (S : List Block) → Bare (padded_at pad S) (total S)
bare pad S = record { ending = ended pad S; none = λ q h. padded_slot pad S q (λ e. omega arith) ∙ past_all S q (omega arith) }

pub base_end : (pad : ℕ) (S : List Block) → (padded_at pad S (total S)).base ≡ pad
base_end pad S = ap (λ (b : Block). b.base) (padded_end pad S)

module _ (xs : List ℕ) {j : ℕ} (l : j < block_count xs) where
  in_shape : j < length (shape_of xs)
  in_shape = let e = shape_length xs in omega arith

  -- the next block starts where this one ends
  pub start_next : start (shape_of xs) (j + 1) ≡ end (shape_of xs) j
  start_next = total_more xs j l ∙ ap (λ (b : Block). start (shape_of xs) j + b.upper) (sym (shape_at xs j no_block l))

  pub block_fits : end (shape_of xs) j ≤ total (shape_of xs)
  block_fits = total_take (shape_of xs) j in_shape

  -- block j and its rows, as they are read
  pub block_rows : (pad : ℕ) {layout : List LaidBlock} {base : ℕ} {padded : Bool} → Lay (shape_of xs) layout
      → base ≡ (block_at xs j).base → Tells padded (Meets base pad)
      → BlockRows (padded_at pad (shape_of xs)) pad (start (shape_of xs) j) (get_or (shape_of xs) j no_block) (zone_in layout j) (end_in layout j) (slot_in layout j) padded
  block_rows pad {padded = padded} lay d t = record {
    at = padded_block pad (shape_of xs) j in_shape;
    zone_is = lay.zone j in_shape;
    end_is = lay.stop j in_shape;
    slot_is = lay.slot j in_shape;
    told = subst (λ (x : ℕ). Tells padded (Meets x pad)) (d ∙ ap (λ (b : Block). b.base) (sym (shape_at xs j no_block l))) t;
  }
