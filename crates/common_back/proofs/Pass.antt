-- The pass over a shape beside another that is laid out in rows, from the last block on. Assumes nothing.
use mathlib.Core.Path.{◌≡◌, refl, sym, ap, ◌∙◌, subst}
use mathlib.Core.List.{List}
use mathlib.Core.Logic.{⊎_elim}
use Prim.Native.Nat.{ℕ, ◌+◌, ◌-◌, ◌≤◌, ◌<◌}
use native.Mathlib.Omega.{arith}
use lib.ListN.{length, take}
use Rattle.bases.specs.Base.{Meets}
use Rattle.plain.proofs.Plain.{lt_or_le}
use Rattle.sets.specs.Set.{Exactly}
use Rattle.sets.specs.declared.Set.{Set}
use Rattle.sets.proofs.Exact.{exactly_as, exactly_at}
use Rattle.shapes.specs.Shape.{Block, total, block_count}
use Rattle.shapes.specs.Lent.{shape_of, block_at}
use Rattle.walks.specs.Walk.{slot_at}
use Rattle.pads.specs.Pad.{PadPath}
use Rattle.pads.proofs.Paths.{path_pad, pad_path, slot_roomy}
use Rattle.rows.specs.Row.{row_in, PutRow, table_size}
use Rattle.rows.specs.Steps.{Leads}
use Rattle.row_lay.proofs.Laid.{total_all, total_more, total_zero, upper_within}
use Rattle.row_paths.specs.Rows.{Zones, LeadsOn, end, taken}
use Rattle.row_paths.proofs.Left.{left_row}
use Rattle.row_paths.proofs.Lent.{block_at_lem}
use Rattle.row_paths.proofs.Shapes.{free_within, held_within}
use Rattle.common_back.specs.Back.{EndRows}
use Rattle.common_blocks.specs.Rows.{WheneverRoomy, BlockKept, RowsAfter}

-- The row has the positions of y whose base meets that of block h of x.
abbrev MineIs : List ℕ → List ℕ → ℕ → ℕ → Type 0
MineIs x y h r = Exactly r (λ q. Meets (block_at x h).base (slot_at (shape_of y) q).base)

-- The row has the positions of y from which, beside position i of x, one text leads to the ends.
abbrev RowIs : List ℕ → List ℕ → ℕ → ℕ → Type 0
RowIs x y i r = Exactly r (λ j. PadPath (slot_at (shape_of x)) (slot_at (shape_of y)) (total (shape_of x)) (total (shape_of y)) i j)

-- The blocks of x from block i on, which starts at p: where their bases meet those of y, and the rows from p on, of
-- which s is the first.
pub record PassFrom (x y : List ℕ) (i p : ℕ) (mines rows : List Set) (s : ℕ) : Type 0 where
  place : p ≡ total (take i (shape_of x))
  mine : (h : ℕ) → i ≤ h → h < block_count x → MineIs x y h (row_in mines h)
  row : (h : ℕ) → p ≤ h → h ≤ total (shape_of x) → RowIs x y h (row_in rows h)
  next : RowIs x y p s

-- where the block before starts
pub pass_place : (x : List ℕ) {y : List ℕ} {mines rows : List Set} {n p s : ℕ} (i : ℕ) → i < block_count x → n ≡ i + 1 → PassFrom x y n p mines rows s
    → p ≡ total (take i (shape_of x)) + (block_at x i).upper
pass_place x i l d t = t.place ∙ ap (λ (z : ℕ). total (take z (shape_of x))) d ∙ total_more x i l

-- at the end of x nothing is taken, and no run ends: only the ends of runs of y lead to its end
row_last : (x y : List ℕ) {Z E : ℕ → ℕ} {k s row : ℕ} → Zones (slot_at (shape_of y)) Z E k → Exactly s (λ e. e ≡ total (shape_of y)) → Exactly row (Leads Z E k s) → RowIs x y (total (shape_of x)) row
row_last x y z v ro = left_row z (exactly_as (λ j h. end refl h) leaves v) ro
  where
    leaves : (j : ℕ) → LeadsOn (slot_at (shape_of x)) (slot_at (shape_of y)) (total (shape_of x)) (total (shape_of y)) (total (shape_of x)) j → j ≡ total (shape_of y)
    leaves j (end i f) = f
    leaves j (LeadsOn.ended g w) = let l = free_within (shape_of x) (total (shape_of x)) g in absurd (omega arith)
    leaves j (taken m w) = let l = held_within (shape_of x) (total (shape_of x)) m.shared m.first in absurd (omega arith)

module _ {x y : List ℕ} {Z E : ℕ → ℕ} {k : ℕ} (z : Zones (slot_at (shape_of y)) Z E k) where
  -- the last row, before all blocks
  pub pass_last : (mines : List Set) {rows rows' : List Set} {n p m seeds s : ℕ} → n ≡ block_count x → p ≡ total (shape_of x) → m ≡ total (shape_of y)
      → Exactly seeds (λ e. e ≡ m) → Exactly s (Leads Z E k seeds) → PutRow rows p s rows' → PassFrom x y n p mines rows' s
  pass_last mines {rows' = rows'} {n} {p} {m} {seeds} {s} d e f v ro u =
      let last : RowIs x y p s = subst (λ (q : ℕ). RowIs x y q s) (sym e)
      (row_last x y z (subst (λ (q : ℕ). Exactly seeds (λ e. e ≡ q)) f v) ro) in
      record {
        place = e ∙ sym (total_all x n (omega arith));
        mine = λ h l g. absurd (omega arith);
        row = λ h l g. let same : p ≡ h = omega arith in subst (λ (q : ℕ). RowIs x y q (row_in rows' q)) same (exactly_at u.here last);
        next = last;
      }

  -- one more block, from p to q
  pub pass_more : {i n p q mine s r : ℕ} {b : Block} {mines mines' rows rows' : List Set} → n ≡ i + 1 → i < block_count x → b ≡ block_at x i → q ≡ p + b.upper
      → Exactly mine (λ j. Meets b.base (slot_at (shape_of y) j).base) → PassFrom x y n q mines rows s → PutRow mines i mine mines'
      → WheneverRoomy Z E k mine p b (BlockKept s rows' p b r) → RowsAfter (p + b.upper) rows rows' → PassFrom x y i p mines' rows' r
  pass_more {i} {n} {p} {q} {mine} {s} {r} {b} {mines} {mines'} {rows} {rows'} d l be qe m t u f w = record {
    place = place;
    mine = λ h a g. ⊎_elim
        (λ c. exactly_at (u.kept h (λ z. omega arith)) (t.mine h (omega arith) g))
        (λ c. let same : i ≡ h = omega arith in subst (λ (j : ℕ). MineIs x y j (row_in mines' j)) same (exactly_at u.here meets))
        (lt_or_le i h);
    row = λ h a g. ⊎_elim
        (λ c. let at : p + (h - p) ≡ h = omega arith in subst (λ (j : ℕ). RowIs x y j (row_in rows' j)) at (got.0 (h - p) (omega arith)))
        (λ c. exactly_at (w.kept h c) (t.row h (omega arith) g))
        (lt_or_le h (p + b.upper));
    next = got.1;
  }
    where
      meets : MineIs x y i mine
      meets = subst (λ (c : Block). Exactly mine (λ j. Meets c.base (slot_at (shape_of y) j).base)) be m

      place : p ≡ total (take i (shape_of x))
      place =
          let a = pass_place x i l d t in
          let c = ap (λ (c : Block). c.upper) be in
          omega arith

      fits : p + b.upper ≤ total (shape_of x)
      fits = let a = upper_within x i l in let c = ap (λ (c : Block). c.upper) be in let v = place in omega arith

      got : ((o : ℕ) → o < b.upper → RowIs x y (p + o) (row_in rows' (p + o))) × RowIs x y p r
      got = f.holds (slot_at (shape_of x)) (slot_at (shape_of y)) (total (shape_of x)) (total (shape_of y)) z (block_at_lem x i p l place be) fits (slot_roomy (shape_of y)) m
          (subst (λ (v : ℕ). RowIs x y v s) qe t.next)

-- the first block reached, from position 0 on
pub pass_all : {x y : List ℕ} {mines rows : List Set} {i p s : ℕ} → i ≡ 0 → block_count x ≤ length mines → length rows ≡ table_size → PassFrom x y i p mines rows s → EndRows x y mines rows
pass_all {x} {y} {i = i} {p = p} e g w t =
    let at : p ≡ 0 = t.place ∙ ap (λ (j : ℕ). total (take j (shape_of x))) e ∙ total_zero (shape_of x) in
    record { mine = λ h l. t.mine h (omega arith) l; row = λ h l. exactly_as (λ j. pad_path (slot_roomy (shape_of x)) (slot_roomy (shape_of y))) (λ j. path_pad (slot_roomy (shape_of x)) (slot_roomy (shape_of y))) (t.row h (omega arith) l); mines_long = g; rows_long = w }
