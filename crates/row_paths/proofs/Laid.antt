-- What the rows of a lent shape say of its positions. Assumes nothing.
use mathlib.Core.Path.{◌≡◌, refl, sym, ap, ◌∙◌, subst}
use mathlib.Core.List.{List}
use Prim.Native.Nat.{ℕ, ◌≤◌, ◌<◌}
use native.Mathlib.Omega.{arith}
use lib.ListN.{length, get_or, take}
use lib.Seq.{get_or-take, length-take-le}
use Rattle.bases.specs.Base.{Holds, Meets}
use Rattle.sets.specs.Set.{set_of, Exactly}
use Rattle.sets.proofs.Exact.{exactly_as, exactly_at}
use Rattle.shapes.specs.Lent.{Whole, shape_of, block_at}
use Rattle.shapes.proofs.Lent.{shape_length}
use Rattle.walks.specs.Walk.{slot_at}
use Rattle.rows.specs.declared.LaidBlock.{LaidBlock}
use Rattle.rows.specs.Row.{no_laid, zone_in, end_in, slot_in}
use Rattle.rows.specs.Steps.{InTurn, AnyOf, Together, MeetsOne}
use Rattle.shapes.specs.Shape.{block_count}
use Rattle.bases.proofs.Sets.{turned}
use Rattle.row_lay.specs.Lay.{Lay}
use Rattle.row_paths.specs.Rows.{Zones}
use Rattle.row_paths.proofs.Lent.{in_turn_of, zones_at, mine_at}
use Rattle.row_paths.specs.Laid.{Laid, LaidOut}

-- the first blocks of a longer layout: as many as the shape has
pub laid_part : (x : List ℕ) (w : List LaidBlock) (n : ℕ) → Whole x → Lay (shape_of x) w → n ≡ block_count x → n ≤ length w → LaidOut x (take n w)
laid_part x w n whole l d h =
    let size = shape_length x in
    let same : (j : ℕ) → j < length (shape_of x) → get_or w j no_laid ≡ get_or (take n w) j no_laid = λ j i. sym (get_or-take n w j no_laid (omega arith)) in
    record {
      whole = whole;
      lay = record {
        zone = λ j i. exactly_at (ap (λ (r : LaidBlock). set_of r.zone) (sym (same j i))) (l.zone j i);
        stop = λ j i. exactly_at (ap (λ (r : LaidBlock). set_of r.end) (sym (same j i))) (l.stop j i);
        slot = λ j i. exactly_at (ap (λ (r : LaidBlock). set_of r.slot) (sym (same j i))) (l.slot j i);
      };
      long = length-take-le n w h ∙ d;
    }

-- the same of a layout that has room
pub part_of : {x : List ℕ} {w : List LaidBlock} → Laid x w → LaidOut x (take (block_count x) w)
part_of {x} {w} l = laid_part x w (block_count x) l.whole l.lay refl l.long

-- and of one that has no more
pub laid_in : {x : List ℕ} {w : List LaidBlock} → LaidOut x w → Laid x w
laid_in l = record { whole = l.whole; lay = l.lay; long = let e = l.long in omega arith }

any_of_part : {A B : ℕ → ℕ} {k m q : ℕ} → m ≡ k → ((j : ℕ) → j < k → A j ≡ B j) → AnyOf A k q → AnyOf B m q
any_of_part {q = q} e f a = let b = a.below in record { number = a.number; below = omega arith; held = subst (λ (v : ℕ). Holds v q) (f a.number b) a.held }

-- the zones and the ends of the first n blocks are those of the part that they are
pub together_part : (w : List LaidBlock) (n : ℕ) {free stops : ℕ} → n ≤ length w → Together (zone_in w) (end_in w) n free stops
    → Together (zone_in (take n w)) (end_in (take n w)) (length (take n w)) free stops
together_part w n h t =
    let long = length-take-le n w h in
    let zone = λ (j : ℕ) (i : j < n). ap (λ (r : LaidBlock). set_of r.zone) (sym (get_or-take n w j no_laid i)) in
    let end = λ (j : ℕ) (i : j < n). ap (λ (r : LaidBlock). set_of r.end) (sym (get_or-take n w j no_laid i)) in
    record {
      free_is = exactly_as (λ q a. any_of_part long zone a) (λ q a. any_of_part (sym long) (λ j i. sym (zone j (omega arith))) a) t.free_is;
      stops_is = exactly_as (λ q a. any_of_part long end a) (λ q a. any_of_part (sym long) (λ j i. sym (end j (omega arith))) a) t.stops_is;
    }

module _ {x : List ℕ} {layout : List LaidBlock} (l : LaidOut x layout) {k : ℕ} (d : k ≡ block_count x) where
  pub laid_turn : InTurn (zone_in layout) (end_in layout) k
  laid_turn = subst (InTurn (zone_in layout) (end_in layout)) (sym d) (in_turn_of x l.lay)

  pub laid_zones : Zones (slot_at (shape_of x)) (zone_in layout) (end_in layout) k
  laid_zones = zones_at x d l.lay l.whole.short

  -- the positions whose base meets a base
  pub laid_meets : {base n : ℕ} → Exactly n (MeetsOne (λ j. (block_at x j).base) (slot_in layout) k base) → Exactly n (λ i. Meets (slot_at (shape_of x) i).base base)
  laid_meets y = exactly_as (λ i m. turned m) (λ i m. turned m) (mine_at x d l.lay y)
