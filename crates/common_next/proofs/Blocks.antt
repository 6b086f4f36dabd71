-- The positions of block a of a lent shape, before and after they are weighed; all blocks. Assumes nothing.
use mathlib.Core.Path.{◌≡◌, refl, sym, ap, ◌∙◌, subst}
use mathlib.Core.List.{List}
use mathlib.Core.Logic.{inl, ⊎_elim}
use Prim.Native.Nat.{ℕ, ◌+◌, ◌^◌, ◌≤◌, ◌<◌}
use native.Mathlib.Omega.{arith}
use lib.Bits.{bit_and}
use lib.ListN.{take}
use Rattle.bases.specs.Base.{Holds, Empty, Meets, Least, codes}
use Rattle.bases.proofs.Laws.{none_in_zero}
use Rattle.plain.proofs.Plain.{lt_or_le}
use Rattle.bases.proofs.Sets.{both}
use Rattle.sets.specs.Set.{set_of, Exactly}
use Rattle.sets.specs.declared.Set.{Set}
use Rattle.sets.proofs.Exact.{exactly_as, both_exactly, held_under}
use Rattle.shapes.specs.Shape.{Block, no_block, total, block_count}
use Rattle.shapes.specs.Lent.{shape_of, block_at}
use Rattle.shapes.proofs.Lent.{shape_length, shape_at}
use Rattle.walks.specs.Walk.{slot_at}
use Rattle.rows.specs.Row.{row_in, slot_in}
use Rattle.rows.specs.declared.LaidBlock.{LaidBlock}
use Rattle.rows.specs.Steps.{MeetsOne}
use Rattle.row_lay.proofs.Laid.{total_zero, total_more, total_all, upper_within}
use Rattle.row_paths.proofs.Shapes.{held_within}
use Rattle.common_back.specs.Back.{EndRows}
use Rattle.common_weighs.specs.declared.Weighed.{Weighed}
use Rattle.common_weighs.specs.Next.{BothTake, none, Slotted}
use Rattle.common_weighs.specs.Code.{NearHas, ChosenBy, Weighing, WeighedAll, Enough}
use Rattle.common_weighs.proofs.Ends.{slot_row, slotted_rows}
use Rattle.common_weighs.proofs.Weighing.{least_more, may_as, settle}

-- all characters there are
pub near_all : {y : List ℕ} {Q near : ℕ} → Exactly near (λ c. c < 256) → NearHas y Q near
near_all x = record { all = λ j c b q h. x.has c b }

-- every character at the positions Q
pub near_of : {y : List ℕ} {t : List LaidBlock} → Slotted y t → {k : ℕ} → k ≡ block_count y → (Q : ℕ) {near : ℕ} → Exactly near (MeetsOne (slot_in t) (λ i. (block_at y i).base) k Q) → NearHas y Q near
near_of {y} l d Q x = record {
  all = λ j c b q h.
      let r = slotted_rows l d in
      let f = r.find j c h in
      x.has c (record { number = f.0; below = f.1; meets = record { shared = j; first = q; second = f.2 }; held = subst (λ (v : ℕ). Holds v c) (r.base f.0 j f.1 f.2) h });
}

-- ---- the slots of block a

module _ {x : List ℕ} {t : List LaidBlock} (l : Slotted x t) {a : ℕ} (h : a < block_count x) where
  -- a position of its row is one of its slots
  slot : (i : ℕ) → Holds (slot_in t a) i → (total (take a (shape_of x)) ≤ i) × (i < total (take (a + 1) (shape_of x))) × ((slot_at (shape_of x) i).base ≡ (block_at x a).base)
  slot i g =
      let n = shape_length x in
      let w = (slot_row l h).so i g in
      let low = w.0 in
      let high = w.1 in
      let u = ap (λ (b : Block). b.upper) (shape_at x a no_block h) in
      let m = total_more x a h in
      (low, omega arith, (slotted_rows l refl).base a i h g)

  in_slot : (i : ℕ) → total (take a (shape_of x)) ≤ i → i < total (take (a + 1) (shape_of x)) → Holds (slot_in t a) i
  in_slot i low high =
      let n = shape_length x in
      let u = ap (λ (b : Block). b.upper) (shape_at x a no_block h) in
      let m = total_more x a h in
      (slot_row l h).has i (low, omega arith)

module _ (x y : List ℕ) (P Q : ℕ) where
  abbrev Chosen : (ℕ → Type 0) → ℕ → ℕ → Type 0
  Chosen D code kept = ChosenBy x y D P Q code kept

  abbrev Weigh : ℕ → ℕ → ℕ → ℕ → ℕ → ℕ → Type 0
  Weigh base E left code kept seen = Weighing (slot_at (shape_of x)) (slot_at (shape_of y)) (total (shape_of x)) (total (shape_of y)) P Q base E left code kept seen

  -- ---- one block

  module _ {t : List LaidBlock} (l : Slotted x t) {a : ℕ} (h : a < block_count x) where
    pub block_begun : {left code kept seen : ℕ} → Exactly left (λ i. Holds P i × Holds (slot_in t a) i) → seen ≡ 0 → Chosen (λ i. Holds P i × (i < total (take a (shape_of x)))) code kept
        → Weigh (block_at x a).base (total (take (a + 1) (shape_of x))) left code kept seen
    unfolding Empty
    block_begun {left} {code} {kept} {seen} e z f = record {
      least = least_more wider (λ c m. inl (may_as narrower m)) f.least;
      kept_all = f.kept_all;
      seen_all = λ c w. absurd (none_in_zero w.other (subst (λ (v : ℕ). Holds v w.other) z w.held));
      inside = λ i g. let w = e.so i g in let t = slot l h i w.1 in (w.0, t.1, t.2);
    }
      where
        wider : (i : ℕ) → Holds P i × (i < total (take a (shape_of x))) → Holds P i × (i < total (take (a + 1) (shape_of x))) × (Holds left i → ⊥)
        wider i d = let low = d.1 in let m = total_more x a h in (d.0, omega arith, λ g. let t = (slot l h i (e.so i g).1).0 in omega arith)

        narrower : (i : ℕ) → Holds P i × (i < total (take (a + 1) (shape_of x))) × (Holds left i → ⊥) → Holds P i × (i < total (take a (shape_of x)))
        narrower i d = ⊎_elim (λ g. (d.0, g)) (λ g. absurd (d.2 (e.has i (d.0, in_slot l h i g d.1)))) (lt_or_le i (total (take a (shape_of x))))

    -- none of P is in it
    pub block_none : {code kept : ℕ} → (Meets P (slot_in t a) → ⊥) → Chosen (λ i. Holds P i × (i < total (take a (shape_of x)))) code kept
        → Chosen (λ i. Holds P i × (i < total (take (a + 1) (shape_of x)))) code kept
    block_none n f = record {
      least = least_more (λ i d. let m = total_more x a h in let g = d.1 in (d.0, omega arith)) (λ c m. inl (may_as narrower m)) f.least;
      kept_all = f.kept_all;
    }
      where
        narrower : (i : ℕ) → Holds P i × (i < total (take (a + 1) (shape_of x))) → Holds P i × (i < total (take a (shape_of x)))
        narrower i d = ⊎_elim
            (λ g. (d.0, g))
            (λ g. absurd (n (record { shared = i; first = d.0; second = in_slot l h i g d.1 })))
            (lt_or_le i (total (take a (shape_of x))))

  -- ---- when its positions are weighed as far as need be

  module _ {base E left code kept seen : ℕ} (w : Weigh base E left code kept seen) where
    settled : ((i j c : ℕ) → Holds left i → Holds Q j → BothTake (slot_at (shape_of x)) (slot_at (shape_of y)) (total (shape_of x)) (total (shape_of y)) i j c → (code ≤ c) × (code < 256))
        → Chosen (λ i. Holds P i × (i < E)) code kept
    settled f = record { least = settle w f; kept_all = w.kept_all }

    pub all_settled : Empty left → Chosen (λ i. Holds P i × (i < E)) code kept
    unfolding Empty
    all_settled n = settled (λ i j c g q t. absurd (n i g))

    module _ {near usable : ℕ} (small : base < 2 ^ codes) (n : NearHas y Q near) (e : usable ≡ bit_and base near) where
      brings : (i j c : ℕ) → Holds left i → Holds Q j → BothTake (slot_at (shape_of x)) (slot_at (shape_of y)) (total (shape_of x)) (total (shape_of y)) i j c → Holds usable c
      brings i j c g q t =
          let h = subst (λ (v : ℕ). Holds v c) (w.inside i g).2 t.first in
          let b = held_under codes small c h in
          subst (λ (v : ℕ). Holds v c) (sym e) (both base near c h (n.all j c (omega arith) q t.second))

      pub none_usable : Empty usable → Chosen (λ i. Holds P i × (i < E)) code kept
      unfolding Empty
      none_usable u = settled (λ i j c g q t. absurd (u c (brings i j c g q t)))

      enough_settled : (first : ℕ) → Least usable first → first < 256 → code ≤ first → Chosen (λ i. Holds P i × (i < E)) code kept
      enough_settled first f b le = settled (λ i j c g q t. let v = f.least c (brings i j c g q t) in (omega arith, omega arith))

  -- ---- from one block to the next

  module _ {t : List LaidBlock} {mines rows : List Set} (l : Slotted x t) (ends : EndRows x y mines rows) {a : ℕ} (h : a < block_count x) {left : ℕ} (at : Exactly left (λ i. Holds P i × Holds (slot_in t a) i)) where
    -- its positions are within the shape
    members_within : (i : ℕ) → Holds left i → i < total (shape_of x)
    members_within i g = let w = (slot l h i (at.so i g).1).1 in let m = total_more x a h in let u = upper_within x a h in omega arith

    pub members_small : (i : ℕ) → Holds left i → i < 250
    members_small i g = let w = members_within i g in let b = l.laid.whole.short in omega arith

    pub block_found : {near usable least beside base : ℕ} (g r : Weighed) → set_of g.seen ≡ 0 → base < 2 ^ codes → NearHas y Q near → base ≡ (block_at x a).base → usable ≡ bit_and base near → Least usable least → least < 256
        → beside ≡ bit_and Q (row_in mines a) → WeighedAll y rows base least beside left g r
        → Chosen (λ i. Holds P i × (i < total (take a (shape_of x)))) g.found.code (set_of g.found.kept) → Chosen (λ i. Holds P i × (i < total (take (a + 1) (shape_of x)))) r.found.code (set_of r.found.kept)
    block_found {near} {usable} {least} {beside} {base} g r z small n e u f b be w v =
        ⊎_elim (λ q. all_settled got.weighing q) (λ le. enough_settled got.weighing (subst (λ (q : ℕ). q < 2 ^ codes) e small) n used least f b le) got.enough
      where
        used : usable ≡ bit_and (block_at x a).base near
        used = u ∙ ap (λ (q : ℕ). bit_and q near) e

        meets : Exactly beside (λ j. Holds Q j × Meets (block_at x a).base (slot_at (shape_of y) j).base)
        meets = exactly_as
            (λ j m. (m.0, (ends.mine a h).so j m.1))
            (λ j m. (m.0, (ends.mine a h).has j m.1))
            (both_exactly Q (row_in mines a) be)

        got : Enough (slot_at (shape_of x)) (slot_at (shape_of y)) (total (shape_of x)) (total (shape_of y)) P Q (block_at x a).base (total (take (a + 1) (shape_of x))) least r
        got = (subst (λ (q : ℕ). WeighedAll y rows q least beside left g r) e w).holds (slot_at (shape_of x)) (total (shape_of x)) (total (shape_of y)) P Q (total (take (a + 1) (shape_of x))) meets
            (λ i q. ends.row (i + 1) (let w = members_within i q in omega arith))
            (block_begun l h at z v)

  -- ---- all blocks

  pub none_found : {code kept : ℕ} → code ≡ 256 → kept ≡ P → Chosen (λ i. Holds P i × (i < total (take 0 (shape_of x)))) code kept
  none_found {code} {kept} e k = record {
    least = none e (λ c m. let z = total_zero (shape_of x) in let g = m.has.1 in omega arith);
    kept_all = record { so = λ i g. subst (λ (v : ℕ). Holds v i) k g; live = λ i j c p q g. subst (λ (v : ℕ). Holds v i) (sym k) p };
  }

  pub all_found : {n code kept : ℕ} → block_count x ≤ n → Chosen (λ i. Holds P i × (i < total (take n (shape_of x)))) code kept → Chosen (Holds P) code kept
  all_found {n} le f = record {
    least = least_more (λ i d. d.0) (λ c m. inl (record {
      own = m.own;
      other = m.other;
      has = (m.has, let g = held_within (shape_of x) m.own c m.goes.first in let t = total_all x n le in omega arith);
      held = m.held;
      goes = m.goes;
    })) f.least;
    kept_all = f.kept_all;
  }
