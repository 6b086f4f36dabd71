-- Before the first character both stand at their starts; what is earliest from there is the earliest common text.
-- Assumes nothing.
use mathlib.Core.Path.{◌≡◌, refl, subst}
use mathlib.Core.List.{List, []}
use Prim.Native.Nat.{ℕ, ◌+◌}
use native.Mathlib.Omega.{arith}
use Rattle.bases.specs.Base.{Holds}
use Rattle.sets.specs.Set.{set_of, Exactly}
use Rattle.sets.specs.declared.Set.{Set}
use Rattle.sets.proofs.Exact.{exactly_as}
use Rattle.shapes.specs.Shape.{total, Fits, block_count}
use Rattle.shapes.specs.Lent.{Whole, shape_of, block_at}
use Rattle.walks.specs.Walk.{Walk, here, skip, slot_at}
use Rattle.walks.proofs.Walks.{walk_append, walk_to, walk_text, path_of}
use Rattle.walks.proofs.Laid.{slots, bounded}
use Rattle.walks.proofs.Fillings.{filling_walk, walk_fits}
use Rattle.rows.specs.Row.{row_in, zone_in, end_in, slot_in}
use Rattle.rows.specs.declared.LaidBlock.{LaidBlock}
use Rattle.rows.specs.Steps.{Leads, MeetsOne, Together}
use Rattle.row_paths.specs.Laid.{LaidOut}
use Rattle.row_paths.proofs.Laid.{laid_in, laid_zones}
use Rattle.common_back.specs.Back.{EndRows}
use Rattle.common_next.specs.declared.Front.{Front}
use Rattle.common_weighs.proofs.Ends.{ended_row, slotted_of, takes_char}
use Rattle.common_texts.specs.Earliest.{TextShown, NothingShown}
use Rattle.common_writes.specs.Code.{Finishes, Meeting, Stands, Started, EarliestWritten}

-- ---- the start

pub started : {x : List ℕ} {t : List LaidBlock} → LaidOut x t → {s : Front} {k one two : ℕ} → k ≡ block_count x → Exactly one (λ c. c ≡ 0) → Exactly (set_of s.row) (Leads (end_in t) (zone_in t) k one)
    → Exactly two (λ c. c ≡ 0) → Exactly (set_of s.takes) (MeetsOne (λ j. (block_at x j).base) (slot_in t) k two) → Together (zone_in t) (end_in t) k (set_of s.runs.free) (set_of s.runs.stops) → Started x s
started {x} {t} d {s = s} e o r o' m f = record {
  row = exactly_as
      (λ q w. subst (λ (p : ℕ). Walk (slot_at (shape_of x)) q p []) (o.so w.from w.held) w.walk)
      (λ q w. record { from = 0; held = o.has 0 refl; walk = w })
      (ended_row (laid_zones d e) r);
  takes = takes_char (slotted_of (laid_in d)) e o' m;
  runs = record { layout = _; laid = d; all = subst (λ (n : ℕ). Together (zone_in t) (end_in t) n (set_of s.runs.free) (set_of s.runs.stops)) e f };
}

module _ {x : List ℕ} {s : Front} (b : Started x s) where
  pub start_stands : Stands x 0 s
  start_stands = record {
    closed = record { closed = λ p h l. b.row.has _ (walk_append (b.row.so p h) (skip l (here refl))) };
    takes = b.takes;
    runs = b.runs;
  }

  start_held : Holds (set_of s.row) 0
  start_held = b.row.has 0 (here refl)

-- ---- the texts that fit

module _ {x : List ℕ} (wx : Whole x) {s : Front} (b : Started x s) where
  -- what is read from the start to the end fits, and what fits is read
  fits_of : {t : List ℕ} → Finishes (slot_at (shape_of x)) (total (shape_of x)) (set_of s.row) t → Fits (shape_of x) t
  fits_of f = walk_fits (bounded (shape_of x)) (slots (shape_of x)) wx.sound (omega arith) (walk_append (b.row.so f.from f.held) f.walk)

reads : (x t : List ℕ) → Fits (shape_of x) t → Walk (slot_at (shape_of x)) (total (shape_of x)) 0 t
reads x t f = walk_text f.joined (walk_to (let zero_first : 0 + total (shape_of x) ≡ total (shape_of x) = omega arith in zero_first) (filling_walk (slots (shape_of x)) f.filling))

finishes_of : {x t : List ℕ} {s : Front} → Started x s → Fits (shape_of x) t → Finishes (slot_at (shape_of x)) (total (shape_of x)) (set_of s.row) t
finishes_of {x} {t} b f = record { from = 0; held = start_held b; walk = reads x t f }

pub shown_text : {x y out out' : List ℕ} {n : ℕ} {s r : Front} → Whole x → Whole y → Started x s → Started y r → EarliestWritten x y (set_of s.row) (set_of r.row) out out' n → TextShown x y out out' n
shown_text wx wy b d w = record {
  text = w.text;
  earliest = record {
    fits_first = fits_of wx b w.earliest.first;
    fits_second = fits_of wy d w.earliest.second;
    no_earlier = λ u f g. w.earliest.no_earlier u (finishes_of b f) (finishes_of d g);
  };
  length_is = w.length_is;
  bytes = w.bytes;
}

-- ---- whether they meet

module _ {x y : List ℕ} {mines rows : List Set} (t : EndRows x y mines rows) where
  pub meets_at_start : {s r : Front} → Started x s → Started y r → Holds (row_in rows 0) 0
      → Meeting (slot_at (shape_of x)) (slot_at (shape_of y)) (total (shape_of x)) (total (shape_of y)) (set_of s.row) (set_of r.row)
  meets_at_start b d h = record { own = 0; other = 0; held = start_held b; held_other = start_held d; path = (t.row 0 (omega arith)).so 0 h }

  pub nothing_shown : {out : List ℕ} → (Holds (row_in rows 0) 0 → ⊥) → NothingShown x y out out
  nothing_shown n = record {
    nothing = record { none = λ u f g. n ((t.row 0 (omega arith)).has 0 (path_of (reads x u f) (reads y u g))) };
    kept = refl;
  }
