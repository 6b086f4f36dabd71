-- A shape laid out in rows: the rows are made block by block, and they say what its slots say. Assumes nothing.
use mathlib.Core.Path.{◌≡◌, refl, sym, ap, ◌∙◌, subst}
use mathlib.Core.List.{List, [], ◌∷◌}
use mathlib.Core.Logic.{⊎_elim, ◌≢◌}
use Prim.Native.Nat.{ℕ, zero, suc, ◌+◌, ◌-◌, ◌≤◌, ◌<◌}
use native.Mathlib.Numerals.{add-one}
use native.Mathlib.Omega.{arith}
use lib.ListN.{length, get_or, set, take}
use lib.Seq.{take_all, get_or-set_same, get_or-set_other}
use Rattle.bases.specs.Base.{Holds, Empty, Meets}
use Rattle.bases.proofs.Laws.{none_in_zero}
use Rattle.plain.proofs.Plain.{lt_or_le}
use Rattle.sets.specs.Set.{set_of, Exactly}
use Rattle.sets.proofs.Exact.{exactly_as}
use Rattle.shapes.specs.Shape.{Block, no_block, total, block_count}
use Rattle.shapes.specs.Lent.{shape_of, block_at}
use Rattle.shapes.proofs.Lent.{shape_length, shape_at}
use Rattle.walks.specs.Walk.{lessen, past, slot_at}
use Rattle.walks.proofs.Laid.{slots, slot_after}
use Rattle.walks.proofs.Fillings.{total_take, has_at, start_at}
use Rattle.rows.specs.declared.LaidBlock.{LaidBlock}
use Rattle.rows.specs.Row.{no_laid, zone_in, end_in, slot_in}
use Rattle.rows.specs.Steps.{InTurn, MeetsOne}
use Rattle.row_lay.specs.Lay.{start, end, LayTo, Lay}

-- ---- the uppers of the blocks before one

pub total_zero : (s : List Block) → total (take 0 s) ≡ 0
unfolding total
total_zero s = refl

take_total : (s : List Block) (i : ℕ) → i < length s → total (take (suc i) s) ≡ end s i
unfolding total
take_total [] i h = absurd (omega arith)
take_total (b ∷ s) zero h = omega arith
take_total (b ∷ s) (suc i) h = let r = take_total s i (omega arith) in omega arith

-- one more block
pub total_more : (xs : List ℕ) (i : ℕ) → i < block_count xs → total (take (i + 1) (shape_of xs)) ≡ total (take i (shape_of xs)) + (block_at xs i).upper
total_more xs i h = ap (λ (n : ℕ). total (take n (shape_of xs))) (add-one i) ∙ take_total (shape_of xs) i (let e = shape_length xs in omega arith)
    ∙ ap (λ (b : Block). total (take i (shape_of xs)) + b.upper) (shape_at xs i no_block h)

pub upper_within : (xs : List ℕ) (i : ℕ) → i < block_count xs → total (take i (shape_of xs)) + (block_at xs i).upper ≤ total (shape_of xs)
upper_within xs i h = subst (λ (b : Block). total (take i (shape_of xs)) + b.upper ≤ total (shape_of xs)) (shape_at xs i no_block h)
    (total_take (shape_of xs) i (let e = shape_length xs in omega arith))

pub total_all : (xs : List ℕ) (i : ℕ) → block_count xs ≤ i → total (take i (shape_of xs)) ≡ total (shape_of xs)
total_all xs i h = ap total (take_all i (shape_of xs) (let e = shape_length xs in omega arith))

-- a later block ends no earlier
end_order : (s : List Block) (i j : ℕ) → i ≤ j → j < length s → end s i ≤ end s j
unfolding total
end_order [] i j l h = absurd (omega arith)
end_order (b ∷ s) zero zero l h = omega arith
end_order (b ∷ s) zero (suc j) l h = omega arith
end_order (b ∷ s) (suc i) zero l h = absurd (omega arith)
end_order (b ∷ s) (suc i) (suc j) l h = let r = end_order s i j (omega arith) (omega arith) in omega arith

-- a later block starts no earlier than one before it ends
start_after : (s : List Block) (i j : ℕ) → i < j → j < length s → end s i ≤ start s j
unfolding total
start_after [] i j l h = absurd (omega arith)
start_after (b ∷ s) i zero l h = absurd (omega arith)
start_after (b ∷ s) zero (suc j) l h = omega arith
start_after (b ∷ s) (suc i) (suc j) l h = let r = start_after s i j (omega arith) (omega arith) in omega arith

-- ---- the rows, block by block

pub lay_none : (S : List Block) (w : List LaidBlock) → LayTo S 0 w
lay_none S w = record { zone = λ j h. absurd (omega arith); stop = λ j h. absurd (omega arith); slot = λ j h. absurd (omega arith) }

-- what holds of each block below j, and of the block that is written there, holds of each below j + 1
laid_more : (P : ℕ → LaidBlock → Type 0) (w : List LaidBlock) (j : ℕ) (b : LaidBlock) → j < length w → ((i : ℕ) → i < j → P i (get_or w i no_laid)) → P j b
    → (i : ℕ) → i < j + 1 → P i (get_or (set w j b) i no_laid)
laid_more P w j b l f h i s = ⊎_elim
    (λ c. let ne : i ≢ j = omega arith in subst (P i) (sym (get_or-set_other w j i b no_laid ne)) (f i c))
    (λ c. let same : i ≡ j = omega arith in subst (λ (x : ℕ). P x (get_or (set w j b) x no_laid)) (sym same) (subst (P j) (sym (get_or-set_same w j b no_laid l)) h))
    (lt_or_le i j)

pub lay_more : {S : List Block} {j p : ℕ} {b : Block} (w : List LaidBlock) (r : LaidBlock) → j < length w → p ≡ start S j → b ≡ get_or S j no_block → LayTo S j w
    → Exactly (set_of r.zone) (λ q. (p + b.lower ≤ q) × (q < p + b.upper)) → Exactly (set_of r.end) (λ q. q ≡ p + b.upper)
    → Exactly (set_of r.slot) (λ q. (p ≤ q) × (q < p + b.upper)) → LayTo S (j + 1) (set w j r)
lay_more {S} {j} {p} {b} w r h at d l z e s =
    let low : b.lower ≡ (get_or S j no_block).lower = ap (λ (c : Block). c.lower) d in
    let up : b.upper ≡ (get_or S j no_block).upper = ap (λ (c : Block). c.upper) d in
    record {
      zone = laid_more (λ i x. Exactly (set_of x.zone) (λ q. (start S i + (get_or S i no_block).lower ≤ q) × (q < end S i))) w j r h l.zone
          (exactly_as (λ q g. (omega arith, omega arith)) (λ q g. (omega arith, omega arith)) z);
      stop = laid_more (λ i x. Exactly (set_of x.end) (λ q. q ≡ end S i)) w j r h l.stop (exactly_as (λ q g. omega arith) (λ q g. omega arith) e);
      slot = laid_more (λ i x. Exactly (set_of x.slot) (λ q. (start S i ≤ q) × (q < end S i))) w j r h l.slot
          (exactly_as (λ q g. (omega arith, omega arith)) (λ q g. (omega arith, omega arith)) s);
    }

pub lay_to : {S : List Block} {n : ℕ} {w : List LaidBlock} → n ≡ length S → LayTo S n w → Lay S w
lay_to {S} {w = w} d l = subst (λ (x : ℕ). LayTo S x w) d l

-- ---- where a position is

-- position q is one of block j
record Within (S : List Block) (q j : ℕ) : Type 0 where
  below : j < length S
  from : start S j ≤ q
  before : q < end S j

block_of : (S : List Block) (q : ℕ) → q < total S → (j : ℕ) × Within S q j
unfolding total
block_of [] q h = absurd (omega arith)
block_of (b ∷ s) q h =
    let again : b.upper ≤ q → (j : ℕ) × Within s (q - b.upper) j = λ g. block_of s (q - b.upper) (omega arith) in
    ⊎_elim
    (λ g. (0, record { below = omega arith; from = omega arith; before = omega arith }))
    (λ g.
    let w = again g in
    let below = w.1.below in
    let from = w.1.from in
    let before = w.1.before in
    (suc w.0, record { below = omega arith; from = omega arith; before = omega arith }))
    (lt_or_le q b.upper)

-- past all blocks
pub past_all : (S : List Block) (q : ℕ) → total S ≤ q → slot_at S q ≡ past
unfolding total slot_at
past_all [] q h = refl
past_all (b ∷ s) q h =
    let k : ℕ = q - b.upper in
    let at : q ≡ b.upper + k = omega arith in
    ap (slot_at (b ∷ s)) at ∙ slot_after b s k ∙ past_all s k (omega arith)

-- the slots of block j
pub slot_place : (S : List Block) (j : ℕ) → j < length S → (k : ℕ) → k < (get_or S j no_block).upper
    → slot_at S (total (take j S) + k) ≡ lessen (get_or S j no_block) k
slot_place S j h = (start_at (total (take j S)) (has_at (slots S) j h)).slot

slot_within : (S : List Block) {q j : ℕ} → Within S q j → slot_at S q ≡ lessen (get_or S j no_block) (q - start S j)
slot_within S {q} {j} w =
    let from = w.from in
    let before = w.before in
    ap (slot_at S) (let e : q ≡ start S j + (q - start S j) = omega arith in e) ∙ slot_place S j w.below (q - start S j) (omega arith)

-- ---- the rows and the slots

module _ {S : List Block} {layout : List LaidBlock} (l : Lay S layout) where
  -- zones run up to their ends, and lie past the ends of the blocks before
  pub lay_in_turn : InTurn (zone_in layout) (end_in layout) (length S)
  lay_in_turn = record {
    first = λ j. start S j + (get_or S j no_block).lower;
    end = end S;
    zone = l.zone;
    stop = l.stop;
    order = λ i j o h. let a = start_after S i j o h in (omega arith, end_order S i j (omega arith) h);
  }

  zone_within : (j q : ℕ) → j < length S → Holds (zone_in layout j) q → Within S q j
  zone_within j q h g = let a = (l.zone j h).so q g in record { below = h; from = omega arith; before = omega arith }

  -- where the run of a slot ends
  run_end : {j q : ℕ} → Within S q j → q + (slot_at S q).upper ≡ end S j
  run_end {j} {q} w =
      let from = w.from in
      let before = w.before in
      let u : (slot_at S q).upper ≡ (get_or S j no_block).upper - (q - start S j) = ap (λ (b : Block). b.upper) (slot_within S w) in
      omega arith

  pub stop_is : (j q x : ℕ) → j < length S → Holds (zone_in layout j) q → Holds (end_in layout j) x → x ≡ q + (slot_at S q).upper
  stop_is j q x h g k = (l.stop j h).so x k ∙ sym (run_end (zone_within j q h g))

  -- from a zone the run may end, and is then at its block's end
  pub zone_run : (j q : ℕ) → j < length S → Holds (zone_in layout j) q → ((slot_at S q).lower ≡ 0) × Holds (end_in layout j) (q + (slot_at S q).upper)
  zone_run j q h g =
      let w = zone_within j q h g in
      let a = (l.zone j h).so q g in
      let u : (slot_at S q).lower ≡ (get_or S j no_block).lower - (q - start S j) = ap (λ (b : Block). b.lower) (slot_within S w) in
      (omega arith, (l.stop j h).has (q + (slot_at S q).upper) (run_end w))

  -- a run that may end is in a zone
  pub run_zone : (q : ℕ) → (slot_at S q).lower ≡ 0 → (j : ℕ) × (j < length S) × Holds (zone_in layout j) q × Holds (end_in layout j) (q + (slot_at S q).upper)
  run_zone q d = ⊎_elim
      (λ h.
      let b = block_of S q h in
      let j : ℕ = b.0 in
      let w : Within S q j = b.1 in
      let from = w.from in
      let before = w.before in
      let u : (slot_at S q).lower ≡ (get_or S j no_block).lower - (q - start S j) = ap (λ (c : Block). c.lower) (slot_within S w) in
      (j, w.below, (l.zone j w.below).has q (omega arith, before), (l.stop j w.below).has (q + (slot_at S q).upper) (run_end w)))
      (λ h. let z : ◌≡◌ {A = ℕ} 1 0 = sym (ap (λ (c : Block). c.lower) (past_all S q h)) ∙ d in absurd (omega arith))
      (lt_or_le q (total S))

  -- the slots of a row have its block's base
  pub slot_base : (j q : ℕ) → j < length S → Holds (slot_in layout j) q → (slot_at S q).base ≡ (get_or S j no_block).base
  slot_base j q h g =
      let a = (l.slot j h).so q g in
      ap (λ (b : Block). b.base) (slot_within S (record { below = h; from = a.0; before = a.1 }))

  -- where a character may come there is a slot
  pub in_slot : (q c : ℕ) → Holds (slot_at S q).base c → (j : ℕ) × (j < length S) × Holds (slot_in layout j) q
  unfolding Empty
  in_slot q c g = ⊎_elim
      (λ h. let b = block_of S q h in let w = b.1 in (b.0, w.below, (l.slot b.0 w.below).has q (w.from, w.before)))
      (λ h. absurd (none_in_zero c (subst (λ (b : Block). Holds b.base c) (past_all S q h) g)))
      (lt_or_le q (total S))

  pub matched_meets : (base q : ℕ) → MeetsOne (λ j. (get_or S j no_block).base) (slot_in layout) (length S) base q → Meets base (slot_at S q).base
  matched_meets base q m = record {
    shared = m.meets.shared;
    first = m.meets.first;
    second = subst (λ (x : ℕ). Holds x m.meets.shared) (sym (slot_base m.number q m.below m.held)) m.meets.second;
  }

  pub meets_matched : (base q : ℕ) → Meets base (slot_at S q).base → MeetsOne (λ j. (get_or S j no_block).base) (slot_in layout) (length S) base q
  meets_matched base q m =
      let i = in_slot q m.shared m.second in
      record {
        number = i.0;
        below = i.1;
        meets = record { shared = m.shared; first = m.first; second = subst (λ (x : ℕ). Holds x m.shared) (slot_base i.0 q i.1 i.2) m.second };
        held = i.2;
      }
