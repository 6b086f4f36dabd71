-- `fitting::fits_by`: the row of the blocks from i on, from the last block to the first. Assumes nothing.
use mathlib.Core.Path.{◌≡◌, refl, sym, ◌∙◌, subst}
use mathlib.Core.List.{List, ◌∷◌}
use Prim.Native.Nat.{ℕ, ◌+◌, ◌-◌}
use native.Mathlib.Omega.{arith}
use lib.ListN.{drop}
use Rattle.bases.specs.Base.{codes}
use Rattle.sets.specs.Set.{set_of}
use Rattle.sets.proofs.Exact.{held_under}
use Rattle.shapes.specs.Shape.{Block, Sound}
use Rattle.shapes.specs.Lent.{shape_of, meant}
use Rattle.shapes.proofs.Lent.{shape_from, none_left, block_sound}
use Rattle.fit_rows.specs.Rows.{Row}
use Rattle.fit_rows.proofs.Rows.{row_last}
use Rattle.fit_tables.proofs.Table.{held_places}
use Rattle.fitting.proofs.fits_by.Goals as goal

block-then : {b b' : Block} {i j : ℕ} (s : List Block) {r : List Block} → b ≡ b' → i ≡ j → r ≡ b' ∷ drop i s → b ∷ drop j s ≡ r
block-then s p q e = sym (e ∙ (λ m. sym p m ∷ drop (q m) s))

pub loop-i-init : goal.loop-i-init
loop-i-init c =
    let a = c.args in
    subst (λ (s : List Block). Row s a.text.now (set_of c.single-row.result)) (sym (none_left a.shape.now)) (row_last a.text.now c.single-row.ensures)

pub row_before-row-requires : goal.row_before-row-requires
row_before-row-requires c = subst Sound (sym c.block_at-b.ensures.result_value) (block_sound c.args.shape.now (c.loop-i.i - 1) (omega arith) c.requires.accepted.sound)

pub loop-i-preserved : goal.loop-i-preserved
loop-i-preserved c =
    let shape = c.args.shape.now in
    let t = c.args.text.now in
    let low = held_under codes c.block_at-b.ensures.small in
    let held = held_places t c.args.table.now _ _ c.requires.places_of c.requires.seen_to low c.both.ensures c.places-held.ensures in
    let back : c.loop-i.i - 1 + 1 ≡ c.loop-i.i = omega arith in
    let blocks : meant c.block_at-b.result ∷ drop c.loop-i.i (shape_of shape) ≡ drop (c.loop-i.i - 1) (shape_of shape)
    = block-then (shape_of shape) c.block_at-b.ensures.result_value back (shape_from shape (c.loop-i.i - 1) (omega arith)) in
    subst (λ (s : List Block). Row s t (set_of c.row_before-row.result)) blocks (c.row_before-row.ensures _ t refl held c.loop-i.invariant)

pub returns : goal.returns
returns c =
    let a = c.args in
    let first : c.loop-i.i ≡ 0 = omega arith in
    let row : Row (shape_of a.shape.now) a.text.now (set_of c.loop-i.row)
    = subst (λ (i : ℕ). Row (drop i (shape_of a.shape.now)) a.text.now (set_of c.loop-i.row)) first c.loop-i.invariant in
    record { so = λ e. (row.so 0 (c.has.ensures.so e)).1; not_so = λ e f. c.has.ensures.not_so e (row.has 0 (omega arith, f)) }
