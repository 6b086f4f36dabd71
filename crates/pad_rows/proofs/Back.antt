-- What leads to the end over padding, block by block from the last: before each block the rows have all from its start
-- on. Assumes nothing.
use mathlib.Core.Path.{◌≡◌, refl, sym, ◌∙◌, subst}
use mathlib.Core.Bool.{Bool, true, false, true≢false}
use mathlib.Core.Logic.{◌⊎◌, inl, inr, ⊎_elim}
use Prim.Native.Nat.{ℕ, ◌+◌, ◌≤◌, ◌<◌}
use native.Mathlib.Omega.{arith}
use lib.Bits.{bit_or}
use Rattle.bases.specs.Base.{Holds, Empty, Meets}
use Rattle.bases.proofs.Laws.{none_in_zero}
use Rattle.plain.proofs.Plain.{lt_or_le, true_or_false}
use Rattle.bases.proofs.Sets.{both, meets_of}
use Rattle.sets.specs.declared.Set.{Set}
use Rattle.sets.specs.Set.{set_of, Exactly}
use Rattle.sets.proofs.Exact.{exactly_as, none_exactly, either_exactly}
use Rattle.shapes.specs.Shape.{Block}
use Rattle.pads.specs.Pad.{after, UpToEnd, Along, here}
use Rattle.pads.proofs.Paths.{after_stays}
use Rattle.pad_rows.specs.declared.Tail.{Tail}
use Rattle.pad_rows.specs.Alone.{Tails}
use Rattle.pad_rows.specs.Code.{Through, taken, quit, WithBlock}
use Rattle.row_paths.proofs.Reached.{along_then}
use Rattle.pad_rows.proofs.Along.{along_from, along_on, along_cross, run_end, next_at, run_free, free_run, edge_after, pad_block, block_pad, over_pad, over_run, first_step, BlockRows}

-- ---- what the code makes of a block's rows

added : (s t : ℕ) {n : ℕ} {P : ℕ → Type 0} → n ≡ bit_or s t → ((q : ℕ) → Holds t q → P q) → ((q : ℕ) → P q → Holds t q) → Exactly n (λ q. Holds s q ⊎ P q)
added s t e f g = exactly_as (λ q. ⊎_elim inl (λ h. inr (f q h))) (λ q. ⊎_elim inl (λ h. inr (g q h))) (either_exactly s t e)

as_it_was : {s : ℕ} {P : ℕ → Type 0} → ((q : ℕ) → P q → ⊥) → Exactly s (λ q. Holds s q ⊎ P q)
as_it_was n = record { so = λ q h. inl h; has = λ q. ⊎_elim (λ h. h) (λ h. absurd (n q h)) }

module _ {zone end slot : ℕ} {padded : Bool} {t : Tail} where
  -- the block's end is not in the row
  pub before_apart : (Meets (set_of t.row) end → ⊥) → WithBlock zone end slot padded t t
  before_apart n = record { row = as_it_was (λ q h. n h.0); quit = as_it_was (λ q h. n h.0); takes = as_it_was (λ q h. n h.0) }

  module _ {u : Tail} (m : Meets (set_of t.row) end) (q : set_of u.quit ≡ bit_or (set_of t.quit) zone) where
    -- it is, and the block may hold padding
    pub before_padded : padded ≡ true → set_of u.row ≡ bit_or (set_of t.row) slot → set_of u.takes ≡ bit_or (set_of t.takes) slot → WithBlock zone end slot padded t u
    before_padded is r s = record {
      row = added (set_of t.row) slot r (λ i h. (m, taken is h)) (λ i h. through i h.1);
      quit = added (set_of t.quit) zone q (λ i h. (m, h)) (λ i h. h.1);
      takes = added (set_of t.takes) slot s (λ i h. (m, is, h)) (λ i h. h.2);
    }
      where
        through : (i : ℕ) → Through zone slot padded i → Holds slot i
        through i (taken y h) = h
        through i (quit y h) = absurd (true≢false (sym is ∙ y))

    -- it is, and the block may not
    pub before_bare : padded ≡ false → set_of u.row ≡ bit_or (set_of t.row) zone → u.takes ≡ t.takes → WithBlock zone end slot padded t u
    before_bare not r s = record {
      row = added (set_of t.row) zone r (λ i h. (m, quit not h)) (λ i h. through i h.1);
      quit = added (set_of t.quit) zone q (λ i h. (m, h)) (λ i h. h.1);
      takes = subst (λ (x : Set). Exactly (set_of x) (λ i. Holds (set_of t.takes) i ⊎ (Meets (set_of t.row) end × (padded ≡ true) × Holds slot i))) (sym s)
          (as_it_was (λ i h. true≢false (sym h.1 ∙ not)));
    }
      where
        through : (i : ℕ) → Through zone slot padded i → Holds zone i
        through i (taken y h) = absurd (true≢false (sym y ∙ not))
        through i (quit y h) = h

-- ---- what leads to the end from a position on

-- from p on: where one comes from to the end W, where a run may end on the way there, where padding is taken on the way
-- there
pub record TailsFrom (Y : ℕ → Block) (pad W p : ℕ) (t : Tail) : Type 0 where
  pub row_is : Exactly (set_of t.row) (λ q. (p ≤ q) × Along Y pad W q)
  pub quit_is : Exactly (set_of t.quit) (λ q. (p ≤ q) × ((Y q).lower ≡ 0) × Along Y pad W (q + (Y q).upper))
  pub takes_is : Exactly (set_of t.takes) (λ q. (p ≤ q) × Meets pad (Y q).base × Along Y pad W (after Y q))

-- a set that is not empty shares a number with itself
meets_itself : (s : ℕ) → (Empty s → ⊥) → Meets s s
unfolding Empty
meets_itself s n = meets_of s s (λ z. n (λ c h. none_in_zero c (subst (λ (x : ℕ). Holds x c) z (both s s c h h))))

-- at the end padding is taken if there is any
pub takes_some : {pad W n : ℕ} → (Empty pad → ⊥) → Exactly n (λ q. q ≡ W) → Exactly n (λ q. (q ≡ W) × Meets pad pad)
takes_some {pad} n x = exactly_as (λ q h. (h, meets_itself pad n)) (λ q h. h.0) x

pub takes_none : {pad W n : ℕ} → Empty pad → n ≡ 0 → Exactly n (λ q. (q ≡ W) × Meets pad pad)
unfolding Empty
takes_none e z = none_exactly z (λ q h. e h.1.shared h.1.first)

module _ {Y : ℕ → Block} {pad W : ℕ} where
  -- before the end
  pub tails_end : {p m : ℕ} {t : Tail} → p ≡ W → m ≡ W → UpToEnd Y W → (Y W).base ≡ pad → Exactly (set_of t.row) (λ q. q ≡ m) → set_of t.quit ≡ 0
      → Exactly (set_of t.takes) (λ q. (q ≡ m) × Meets pad pad) → TailsFrom Y pad W p t
  tails_end f g k same r n s = record {
    row_is = exactly_as (λ q e. (omega arith, here {q = q} (omega arith))) (λ q h. let l = h.0 in let o = along_on h.1 in omega arith) r;
    quit_is = none_exactly n (λ q h.
        let l = h.0 in
        let o = along_on h.2 in
        let e : q ≡ W = omega arith in
        k.no_run (subst (λ (x : ℕ). (Y x).lower ≡ 0) e h.1));
    takes_is = exactly_as
        (λ q h.
        let e : W ≡ q = let d = h.0 in omega arith in
        (omega arith, subst (λ (x : ℕ). Meets pad (Y x).base) e (subst (Meets pad) (sym same) h.1), subst (λ (x : ℕ). Along Y pad W (after Y x)) e (here {q = after Y W} (after_stays Y W k.no_room))))
        (λ q h.
        let l = h.0 in
        let o = along_on h.2 in
        let e : q ≡ W = omega arith in
        (omega arith, subst (Meets pad) same (subst (λ (x : ℕ). Meets pad (Y x).base) e h.1)))
        s;
  }

  module _ {p : ℕ} {b : Block} {zone end slot : ℕ} {padded : Bool} {t : Tail} {p' : ℕ} (k : BlockRows Y pad p b zone end slot padded) (fits : p + b.upper ≤ W)
      (same : p' ≡ p + b.upper) (x : TailsFrom Y pad W p' t) where
    -- the block's end is in the row if it leads to the end
    leads : Meets (set_of t.row) end → Along Y pad W (p + b.upper)
    leads m = along_from (k.end_is.so m.shared m.second) (x.row_is.so m.shared m.first).1

    led : Along Y pad W (p + b.upper) → Meets (set_of t.row) end
    led a = record { shared = p + b.upper; first = x.row_is.has (p + b.upper) (omega arith, a); second = k.end_is.has (p + b.upper) refl }

    -- what reads to the block's end
    through_along : (q : ℕ) → Through zone slot padded q → (p ≤ q) × Along Y pad (p + b.upper) q
    through_along q (taken y h) = let w = k.slot_is.so q h in let g = w.1 in (w.0, over_pad k.at q (p + b.upper) (k.told.so y) w.0 (omega arith) (omega arith))
    through_along q (quit y h) = let w = k.zone_is.so q h in let g = w.0 in (omega arith, over_run k.at q w.0 w.1)

    along_through : (q : ℕ) → p ≤ q → q < p + b.upper → Along Y pad (p + b.upper) q → Through zone slot padded q
    along_through q l g a = ⊎_elim
        (λ y. taken y (k.slot_is.has q (l, g)))
        (λ y. ⊎_elim
        (λ e. absurd (omega arith))
        (⊎_elim (λ w. quit y (k.zone_is.has q (w.0, g))) (λ m. absurd (k.told.not_so y m)))
        (first_step k.at (p + b.upper) q l g a))
        (true_or_false padded)

    -- one block more
    pub tails_more : {u : Tail} → WithBlock zone end slot padded t u → TailsFrom Y pad W p u
    tails_more z = record {
      row_is = exactly_as
          (λ q. ⊎_elim
          (λ h. let v = x.row_is.so q h in let l = v.0 in (omega arith, v.1))
          (λ h. let v = through_along q h.1 in (v.0, along_then v.1 (leads h.0))))
          (λ q h. ⊎_elim
          (λ g. let c = along_cross (edge_after k.at) (omega arith) fits h.1 in inr (led c.1, along_through q h.0 g c.0))
          (λ g. inl (x.row_is.has q (omega arith, h.1)))
          (lt_or_le q (p + b.upper)))
          z.row;
      quit_is = exactly_as
          (λ q. ⊎_elim
          (λ h. let v = x.quit_is.so q h in let l = v.0 in (omega arith, v.1, v.2))
          (λ h.
          let w = k.zone_is.so q h.1 in
          let l : p ≤ q = let g = w.0 in omega arith in
          (l, run_free k.at q w.0 w.1, along_from (sym (run_end k.at q l w.1)) (leads h.0))))
          (λ q h. ⊎_elim
          (λ g. inr (led (along_from (run_end k.at q h.0 g) h.2), k.zone_is.has q (free_run k.at q h.0 g h.1, g)))
          (λ g. inl (x.quit_is.has q (omega arith, h.1, h.2)))
          (lt_or_le q (p + b.upper)))
          z.quit;
      takes_is = exactly_as
          (λ q. ⊎_elim
          (λ h. let v = x.takes_is.so q h in let l = v.0 in (omega arith, v.1, v.2))
          (λ h.
          let w = k.slot_is.so q h.2 in
          let m = k.told.so h.1 in
          let l = w.0 in
          let g = w.1 in
          (l, block_pad k.at q l g m, along_from (sym (next_at k.at q l g)) (along_then (over_pad k.at (q + 1) (p + b.upper) m (omega arith) (omega arith) (omega arith)) (leads h.0)))))
          (λ q h. ⊎_elim
          (λ g. inr (
            led (along_cross (edge_after k.at) (omega arith) fits (along_from (next_at k.at q h.0 g) h.2)).1,
            ⊎_elim (λ y. y) (λ y. absurd (k.told.not_so y (pad_block k.at q h.0 g h.1))) (true_or_false padded),
            k.slot_is.has q (h.0, g),
          ))
          (λ g. inl (x.takes_is.has q (omega arith, h.1, h.2)))
          (lt_or_le q (p + b.upper)))
          z.takes;
    }

  -- before all blocks
  pub tails_all : {p : ℕ} {t : Tail} → p ≡ 0 → TailsFrom Y pad W p t → Tails Y pad W t
  tails_all e x = record {
    row = exactly_as (λ q h. h.1) (λ q h. (omega arith, h)) x.row_is;
    quit = exactly_as (λ q h. (h.1, h.2)) (λ q h. (omega arith, h.0, h.1)) x.quit_is;
    takes = exactly_as (λ q h. (h.1, h.2)) (λ q h. (omega arith, h.0, h.1)) x.takes_is;
  }
