-- A lent shape of which all is known: none on the right side, or its new blocks. Assumes nothing.
use mathlib.Core.Path.{◌≡◌, refl, sym, subst}
use mathlib.Core.List.{List}
use Prim.Native.Nat.{ℕ, ◌^◌, ◌≤◌, ◌<◌}
use native.Mathlib.Omega.{arith}
use lib.ListN.{length, get_or, take}
use lib.Seq.{take_all}
use Rattle.bases.specs.Base.{Holds, codes}
use Rattle.sets.specs.declared.Set.{Set}
use Rattle.sets.specs.Set.{set_of, Exactly}
use Rattle.sets.proofs.Exact.{held_under}
use Rattle.plain.specs.All.{All}
use Rattle.shapes.specs.Shape.{Block, Small, no_block, total, block_count}
use Rattle.shapes.specs.Lent.{shape_of, block_at}
use Rattle.plain.proofs.All.{all_at}
use Rattle.shapes.proofs.Lent.{shape_length, shape_at}
use Rattle.hulls.specs.Hull.{None}
use Rattle.walks.specs.Walk.{slot_at, stay}
use Rattle.walks.proofs.Laid.{slots, bounded}
use Rattle.rows.specs.declared.LaidBlock.{LaidBlock}
use Rattle.rows.specs.Row.{row_in, zone_in, end_in, slot_in}
use Rattle.rows.specs.Steps.{AnyOf}
use Rattle.row_blocks.specs.Blocks.{LengthBy, SomeLength, ToldBy, ToldTo}
use Rattle.row_blocks.proofs.Out.{narrowed, narrowed_size, narrowed_at, narrowed_out}
use Rattle.order_sides.specs.Guide.{Guide, KeptTo, Clear}
use Rattle.order_sides.specs.Collect.{RunEndsAt, SideCollected}
use Rattle.order_sides.proofs.Runs.{Spot}
use Rattle.order_sides.proofs.Side.{spot, side_none, side_ends, side_hull}
use Rattle.row_paths.specs.Laid.{LaidOut}
use Rattle.order_rows.specs.Rows.{Known}
use Rattle.row_paths.proofs.Laid.{laid_zones}
use Rattle.order_rows.proofs.Told.{ends_length, told_collected}
use Rattle.order_states.specs.declared.Gathered.{Gathered}
use Rattle.order_back.specs.Back.{Gathers}
use Rattle.order_by_text.specs.Freed.{Freed}
use Rattle.order_by_text.specs.Narrowed.{OneNarrowed}

-- what is gathered by the part of a layout that is all of it
pub gathered : {x : List ℕ} {y : List LaidBlock} → LaidOut x y → {G : Guide} {u : ℕ} {chars : List Set} {g : Gathered} → Gathers (slot_at (shape_of x)) G u (take (block_count x) y) chars g
    → Gathers (slot_at (shape_of x)) G u y chars g
gathered {x} {y} l {G} {u} {chars} {g} t = subst (λ (w : List LaidBlock). Gathers (slot_at (shape_of x)) G u w chars g) (take_all (block_count x) y (let e = l.long in omega arith)) t

module _ {x : List ℕ} {y : List LaidBlock} (l : LaidOut x y) {u : ℕ} (size : u ≡ total (shape_of x)) (G : Guide) {chars : List Set} {g : Gathered}
    (t : Gathers (slot_at (shape_of x)) G u y chars g) where
  -- the first row tells whether some text is on the right side
  pub none_right : (Holds (set_of g.clear) 0 → ⊥) → None (KeptTo G) (shape_of x)
  none_right n = side_none (shape_of x) (slots (shape_of x)) (bounded (shape_of x)) G
      (λ c. n (t.pass.rests.has 0 (stay refl refl) (subst (λ (n : ℕ). Clear (slot_at (shape_of x)) G n 0 0) (sym size) c)))

  module _ (first : Holds (set_of g.clear) 0) where
    clear : Clear (slot_at (shape_of x)) G (total (shape_of x)) 0 0
    clear = subst (λ (n : ℕ). Clear (slot_at (shape_of x)) G n 0 0) size (t.pass.rests.so 0 first)

    module _ {free : ℕ} (all : Exactly free (AnyOf (zone_in y) (length y))) {chars' : List Set} {quit moved : ℕ} (f : Freed y u free g chars chars' quit moved) where
      known : Known (slot_at (shape_of x)) G (total (shape_of x)) (slot_in y) (length y) quit moved (row_in chars')
      known = subst (λ (n : ℕ). Known (slot_at (shape_of x)) G n (slot_in y) (length y) quit moved (row_in chars')) size
          (f.holds (slot_at (shape_of x)) G (zone_in y) (end_in y) (laid_zones l l.long) all t)

      spot_at : (i : ℕ) → i < length (shape_of x) → Spot (slot_at (shape_of x)) (total (shape_of x)) (total (take i (shape_of x))) (get_or (shape_of x) i no_block)
      spot_at i h = spot (shape_of x) (slots (shape_of x)) (bounded (shape_of x)) l.whole.sound i h

      some_ends : (i : ℕ) → i < length (shape_of x) → (n : ℕ) × RunEndsAt (slot_at (shape_of x)) G (total (shape_of x)) (total (take i (shape_of x))) (get_or (shape_of x) i no_block) n
      some_ends i h = side_ends (shape_of x) (slots (shape_of x)) (bounded (shape_of x)) l.whole.sound G i h clear

      pub some_length : SomeLength quit moved x (block_count x)
      some_length i h =
          let w = shape_length x in
          let n = some_ends i (omega arith) in
          (n.0, subst (λ (b : Block). LengthBy quit moved (total (take i (shape_of x))) b n.0) (shape_at x i no_block h) (ends_length (spot_at i (omega arith)) known n.1))

      module _ (small : All Small (shape_of x)) {out out' : List ℕ} (room : length x ≤ length out) (told : ToldTo chars' quit moved x (block_count x) out out') where
        collected_at : (i : ℕ) → i < length (shape_of x)
            → SideCollected (slot_at (shape_of x)) G (total (shape_of x)) (total (take i (shape_of x))) (get_or (shape_of x) i no_block) (get_or (narrowed x out out' l.whole.blocks room told) i no_block)
        collected_at i h =
            let w = shape_length x in
            let n = some_ends i h in
            let lent : i < block_count x = omega arith in
            told_collected (spot_at i h) known i (omega (arith, l.long)) (l.lay.slot i h) n.1 (λ c y. let v = held_under codes (all_at no_block small i h) c y in omega arith)
            (subst (ToldBy (row_in chars' i) quit moved (total (take i (shape_of x))) (get_or (shape_of x) i no_block)) (sym (narrowed_at x out out' l.whole.blocks room told i lent))
            (subst (λ (b : Block). ToldBy (row_in chars' i) quit moved (total (take i (shape_of x))) b (block_at out' i)) (sym (shape_at x i no_block lent)) (told.blocks i lent)))

        pub narrowed_one : ((k : ℕ) → get_or out' k 0 < 2 ^ 64) → OneNarrowed (KeptTo G) x out out'
        narrowed_one fits = record {
          blocks = narrowed x out out' l.whole.blocks room told;
          hull = side_hull (shape_of x) (slots (shape_of x)) (bounded (shape_of x)) l.whole.sound G (narrowed x out out' l.whole.blocks room told)
              (narrowed_size x out out' l.whole.blocks room told) clear collected_at;
          words = narrowed_out x out out' l.whole.blocks room told fits;
        }
