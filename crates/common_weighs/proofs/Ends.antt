-- A row closed forwards under the ends of runs, and one character on; which positions and characters two bases share.
-- Assumes nothing.
use mathlib.Core.Path.{◌≡◌, refl, sym, ap, ◌∙◌, subst}
use mathlib.Core.List.{List, []}
use mathlib.Core.Logic.{inl, inr, ⊎_elim}
use Rattle.std.proofs.Common.{min}
use Prim.Native.Nat.{ℕ, ◌+◌, ◌*◌, ◌%◌, ◌^◌, ◌≤◌, ◌<◌}
use native.Mathlib.Omega.{arith}
use lib.Bits.{bit_and}
use lib.ListN.{get_or, take}
use lib.Seq.{get_or-take, length-take-le}
use Rattle.plain.proofs.Plain.{lt_or_le}
use Rattle.bases.specs.Base.{Holds, Empty, Meets, Least}
use Rattle.sets.specs.Set.{set_of, Exactly, OneUp}
use Rattle.sets.proofs.Exact.{exactly_as, exactly_at, both_exactly, up_exactly}
use Rattle.shapes.specs.Shape.{Block, no_block, total, block_count}
use Rattle.shapes.specs.Lent.{shape_of, block_at}
use Rattle.shapes.proofs.Lent.{shape_length}
use Rattle.walks.specs.Walk.{Walk, here, skip, slot_at}
use Rattle.walks.proofs.Walks.{walk_append}
use Rattle.rows.specs.Row.{no_laid, slot_in}
use Rattle.rows.specs.declared.LaidBlock.{LaidBlock}
use Rattle.rows.specs.Steps.{Leads, there, step, MeetsOne}
use Rattle.row_paths.specs.Laid.{Laid}
use Rattle.row_paths.specs.Rows.{Zones}
use Rattle.row_paths.proofs.Chars.{SlotRows}
use Rattle.row_paths.proofs.Laid.{part_of, laid_zones, laid_meets}
use Rattle.row_paths.proofs.Shapes.{held_within}
use Rattle.row_paths.proofs.Lent.{slot_rows_at}
use Rattle.common_weighs.specs.Next.{RunsEnded, After, RunEnds, Slotted}
use Rattle.common_weighs.specs.Code.{SharedAt, Sooner}

-- ---- the ends of runs

module _ {X : ℕ → Block} {Z E : ℕ → ℕ} {k : ℕ} (z : Zones X Z E k) where
  leads_ended : {s q : ℕ} → Leads E Z k s q → RunsEnded X s q
  leads_ended {q = q} (there h) = record { from = q; held = h; walk = here refl }
  leads_ended {q = q} (step {e = e} j l to from r) =
      let w = leads_ended r in
      record { from = w.from; held = w.held; walk = walk_append w.walk (skip (z.free j e l from) (here (sym (z.stop j e q l from to)))) }

  walk_leads : {s q p : ℕ} → Walk X q p [] → Leads E Z k s p → Leads E Z k s q
  walk_leads {s} (here e) r = subst (Leads E Z k s) e r
  walk_leads {p = p} (skip l w) r = let f = z.find p l in walk_leads w (step f.0 f.1 f.3 f.2 r)

  pub ended_row : {s r : ℕ} → Exactly r (Leads E Z k s) → Exactly r (RunsEnded X s)
  ended_row x = exactly_as (λ q l. leads_ended l) (λ q w. walk_leads w.walk (there w.held)) x

-- where no run may end, nothing more
pub ended_none : (x : List ℕ) (free s : ℕ) {stops : ℕ} → RunEnds x free stops → (Meets s free → ⊥) → Exactly s (RunsEnded (slot_at (shape_of x)) s)
ended_none x free s f n = record { so = λ q h. record { from = q; held = h; walk = here refl }; has = λ q w. at q w.from w.held w.walk }
  where
    at : (q p : ℕ) → Holds s p → Walk (slot_at (shape_of x)) q p [] → Holds s q
    at q p h (here e) = subst (Holds s) e h
    at q p h (skip l w) =
        let g = (laid_zones f.laid refl).find p l in
        absurd (n (record { shared = p; first = h; second = f.all.free_is.has p (record { number = g.0; below = g.1; held = g.2 }) }))

-- one character on
pub row_after_lem : (x : List ℕ) (row takes c : ℕ) {a u r : ℕ} → total (shape_of x) ≤ 250 → Exactly takes (λ q. Holds (slot_at (shape_of x) q).base c) → a ≡ bit_and row takes → u ≡ a * 2 % 2 ^ 256
    → Exactly r (RunsEnded (slot_at (shape_of x)) u) → Exactly r (After (slot_at (shape_of x)) row c)
row_after_lem x row takes c {a} {u} short t d e y = exactly_as to from y
  where
    held : Exactly a (λ q. Holds row q × Holds takes q)
    held = both_exactly row takes d

    up : Exactly u (λ q. (q < 256) × OneUp a q)
    up = up_exactly a 256 e

    to : (q : ℕ) → RunsEnded (slot_at (shape_of x)) u q → After (slot_at (shape_of x)) row c q
    to q w =
        let o = (up.so w.from w.held).1 in
        let h = held.so o.number o.held in
        record { from = o.number; held = h.0; takes = t.so o.number h.1; ends = subst (λ (p : ℕ). Walk (slot_at (shape_of x)) q p []) o.next w.walk }

    from : (q : ℕ) → After (slot_at (shape_of x)) row c q → RunsEnded (slot_at (shape_of x)) u q
    from q w =
        let b = held_within (shape_of x) w.from c w.takes in
        record { from = w.from + 1; held = up.has (w.from + 1) (omega arith, record { number = w.from; held = held.has w.from (w.held, t.has w.from w.takes); next = refl }); walk = w.ends }

-- ---- what the rows of a shape's positions say, whatever its zones and ends

module _ {x : List ℕ} {t : List LaidBlock} (l : Slotted x t) where
  pub slot_row : {a : ℕ} → a < block_count x → Exactly (slot_in t a) (λ q. (total (take a (shape_of x)) ≤ q) × (q < total (take a (shape_of x)) + (get_or (shape_of x) a no_block).upper))
  slot_row {a} h = exactly_at (l.same a h) (l.laid.lay.slot a (let n = shape_length x in omega arith))

  pub slotted_rows : {k : ℕ} → k ≡ block_count x → SlotRows (slot_at (shape_of x)) (λ j. (block_at x j).base) (slot_in t) k
  slotted_rows {k} d = let r = slot_rows_at x d l.laid.lay in record {
    base = λ j q h g. r.base j q h (subst (λ (v : ℕ). Holds v q) (l.same j (omega arith)) g);
    find = λ q c h. let f = r.find q c h in let b = f.1 in (f.0, f.1, subst (λ (v : ℕ). Holds v q) (sym (l.same f.0 (omega arith))) f.2);
  }

  -- the positions whose base meets a base
  slotted_meets : {k base n : ℕ} → k ≡ block_count x → Exactly n (MeetsOne (λ j. (block_at x j).base) (slot_in t) k base) → Exactly n (λ i. Meets (slot_at (shape_of x) i).base base)
  slotted_meets d y = laid_meets l.laid d (exactly_as
      (λ q m. let b = m.below in record { number = m.number; below = b; meets = m.meets; held = subst (λ (v : ℕ). Holds v q) (l.same m.number (omega arith)) m.held })
      (λ q m. let b = m.below in record { number = m.number; below = b; meets = m.meets; held = subst (λ (v : ℕ). Holds v q) (sym (l.same m.number (omega arith))) m.held })
      y)

  -- a layout of a part that has as many structs as the shape has blocks
  pub slotted_part : Slotted x (take (block_count x) t)
  slotted_part = record {
    other = l.other;
    laid = l.laid;
    same = λ j h. ap (λ (r : LaidBlock). set_of r.slot) (get_or-take (block_count x) t j no_laid h) ∙ l.same j h;
    long = let e = length-take-le (block_count x) t l.long in omega arith;
  }

-- those of a layout are
pub slotted_of : {x : List ℕ} {t : List LaidBlock} → Laid x t → Slotted x t
slotted_of {x} {t} l = record {
  other = take (block_count x) t;
  laid = part_of l;
  same = λ j h. ap (λ (r : LaidBlock). set_of r.slot) (sym (get_or-take (block_count x) t j no_laid h));
  long = l.long;
}

-- ---- the positions that take a character

pub takes_char : {x : List ℕ} {t : List LaidBlock} → Slotted x t → {k one m code : ℕ} → k ≡ block_count x → Exactly one (λ c. c ≡ code)
    → Exactly m (MeetsOne (λ j. (block_at x j).base) (slot_in t) k one) → Exactly m (λ q. Holds (slot_at (shape_of x) q).base code)
takes_char {x} l {code = code} d o y = exactly_as
    (λ q m. subst (Holds (slot_at (shape_of x) q).base) (o.so m.shared m.second) m.first)
    (λ q h. record { shared = code; first = h; second = o.has code refl })
    (slotted_meets l d y)

-- ---- the characters that a base shares with those at some positions

module _ {Y : ℕ → Block} {B S : ℕ → ℕ} {k : ℕ} (s : SlotRows Y B S k) where
  shared_in : (base row : ℕ) {j n : ℕ} → Exactly j (MeetsOne S B k row) → n ≡ bit_and base j → Exactly n (SharedAt Y base row)
  shared_in base row {j} x e = exactly_as to from (both_exactly base j e)
    where
      to : (c : ℕ) → Holds base c × Holds j c → SharedAt Y base row c
      to c h =
          let m = x.so c h.1 in
          let w = m.meets in
          record { other = w.shared; held = w.first; first = h.0; second = subst (λ (v : ℕ). Holds v c) (sym (s.base m.number w.shared m.below w.second)) m.held }

      from : (c : ℕ) → SharedAt Y base row c → Holds base c × Holds j c
      from c w =
          let f = s.find w.other c w.second in (
            w.first,
            x.has c (record {
              number = f.0;
              below = f.1;
              meets = record { shared = w.other; first = w.held; second = f.2 };
              held = subst (λ (v : ℕ). Holds v c) (s.base f.0 w.other f.1 f.2) w.second;
            }),
          )

pub shared_row : {y : List ℕ} {t : List LaidBlock} → Slotted y t → {k : ℕ} → k ≡ block_count y → (base row : ℕ) {j n : ℕ} → Exactly j (MeetsOne (slot_in t) (λ i. (block_at y i).base) k row) → n ≡ bit_and base j
    → Exactly n (SharedAt (slot_at (shape_of y)) base row)
shared_row l d base row x e = shared_in (slotted_rows l d) base row x e

-- the least of them, or the one that was there

module _ {Y : ℕ → Block} {base row code : ℕ} where
  pub sooner_no_row : Empty row → Sooner Y base row code code
  unfolding Empty
  sooner_no_row n = record { so = inl refl; no_later = omega arith; least = λ c w. absurd (n w.other w.held) }

  module _ {shared : ℕ} (x : Exactly shared (SharedAt Y base row)) where
    pub sooner_none : Empty shared → Sooner Y base row code code
    unfolding Empty
    sooner_none n = record { so = inl refl; no_later = omega arith; least = λ c w. absurd (n c (x.has c w)) }

    pub sooner_least : (r : ℕ) {n : ℕ} → n ≡ min code r → Least shared r → r < 256 → Sooner Y base row code n
    sooner_least r {n} e l b = ⊎_elim
        (λ h. let is : n ≡ r = omega arith in subst (Sooner Y base row code) (sym is) (record { so = inr (b, x.so r l.held); no_later = omega arith; least = λ c w. (l.least c (x.has c w), b) }))
        (λ h. let is : n ≡ code = omega arith in subst (Sooner Y base row code) (sym is) (record { so = inl refl; no_later = omega arith; least = λ c w. let v = l.least c (x.has c w) in (omega arith, omega arith) }))
        (lt_or_le r code)
