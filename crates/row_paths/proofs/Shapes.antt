-- A shape's blocks stand in its slots, and past them nothing is allowed. Assumes nothing.
use mathlib.Core.Path.{◌≡◌, sym, ap, ◌∙◌, subst}
use mathlib.Core.List.{List}
use mathlib.Core.Logic.{◌⊎◌, inl, inr, ⊎_elim}
use Prim.Native.Nat.{ℕ, ◌+◌, ◌≤◌, ◌<◌}
use native.Mathlib.Omega.{arith}
use lib.ListN.{length, get_or, take}
use Rattle.bases.specs.Base.{Holds, Empty, Meets}
use Rattle.bases.proofs.Laws.{none_in_zero}
use Rattle.plain.proofs.Plain.{lt_or_le, eq_or_ne}
use Rattle.sets.specs.Set.{Exactly}
use Rattle.sets.proofs.Exact.{exactly_as}
use Rattle.shapes.specs.Shape.{Block, no_block, total}
use Rattle.walks.specs.Walk.{slot_at}
use Rattle.walks.proofs.Laid.{slots, in_slots, bounded}
use Rattle.walks.proofs.Fillings.{has_at, start_at, slots_take, total_take}
use Rattle.pads.specs.Pad.{padded_at}
use Rattle.pads.proofs.Paths.{padded_slot, padded_below, padded_end, ended}
use Rattle.rows.specs.declared.LaidBlock.{LaidBlock}
use Rattle.rows.specs.Row.{zone_in, end_in, slot_in}
use Rattle.row_lay.specs.Lay.{Lay}
use Rattle.row_lay.proofs.Laid.{past_all, zone_run, stop_is, run_zone, slot_base, in_slot}
use Rattle.row_paths.specs.Rows.{BlockIn, Zones, Shares}
use Rattle.row_paths.proofs.Chars.{SlotRows, PaddedRows}

-- past all blocks no run may end and no character come
pub free_within : (s : List Block) (h : ℕ) → (slot_at s h).lower ≡ 0 → h < total s
free_within s h e = ⊎_elim (λ c. c) (λ c. let z : ◌≡◌ {A = ℕ} 1 0 = sym (ap (λ (b : Block). b.lower) (past_all s h c)) ∙ e in absurd (omega arith)) (lt_or_le h (total s))

pub held_within : (s : List Block) (h c : ℕ) → Holds (slot_at s h).base c → h < total s
unfolding Empty
held_within s h c k = ⊎_elim (λ l. l) (λ l. absurd (none_in_zero c (subst (λ (b : Block). Holds b.base c) (past_all s h l) k))) (lt_or_le h (total s))

pub block_in : (s : List Block) (i : ℕ) → i < length s → BlockIn (slot_at s) (total (take i s)) (get_or s i no_block)
block_in s i l = record {
  slot = (start_at (total (take i s)) (has_at (slots s) i l)).slot;
  edge = λ h g. let w = (in_slots (slots_take i (slots s)) h (omega arith) (omega arith)).within in omega arith;
  room = λ h e. (bounded s).room h (free_within s h e);
}

-- ---- a shape laid out in rows

module _ {S : List Block} {layout : List LaidBlock} (l : Lay S layout) where
  pub zones_of : total S ≤ 250 → Zones (slot_at S) (zone_in layout) (end_in layout) (length S)
  zones_of h = record {
    free = λ j q b x. (zone_run l j q b x).0;
    stop = λ j q y b x w. stop_is l j q y b x w;
    find = λ q f. run_zone l q f;
    within = λ q c k. let w = held_within S q c k in omega arith;
  }

  pub slot_rows : SlotRows (slot_at S) (λ j. (get_or S j no_block).base) (slot_in layout) (length S)
  slot_rows = record { base = λ j q b x. slot_base l j q b x; find = λ q c k. in_slot l q c k }

-- ---- the same with padding behind the blocks

module _ (pad : ℕ) (s : List Block) where
  -- a run that may end is within the blocks, and there the padding does not show
  pub padded_free : (h : ℕ) → (padded_at pad s h).lower ≡ 0 → h < total s
  padded_free h e = ⊎_elim
      (λ at. let z : ◌≡◌ {A = ℕ} 1 0 = sym (ap (λ (b : Block). b.lower) (ap (padded_at pad s) at ∙ padded_end pad s)) ∙ e in absurd (omega arith))
      (λ n. free_within s h (subst (λ (b : Block). b.lower ≡ 0) (padded_slot pad s h n) e))
      (eq_or_ne h (total s))

  -- a character is one of the blocks, or of the padding
  pub padded_held : (h c : ℕ) → Holds (padded_at pad s h).base c → (h < total s) ⊎ (h ≡ total s)
  padded_held h c k = ⊎_elim (λ e. inr e) (λ n. inl (held_within s h c (subst (λ (b : Block). Holds b.base c) (padded_slot pad s h n) k))) (eq_or_ne h (total s))

  pub padded_block : (i : ℕ) → i < length s → BlockIn (padded_at pad s) (total (take i s)) (get_or s i no_block)
  padded_block i l =
      let b = block_in s i l in
      let fits = total_take s i l in
      record {
        slot = λ o h. padded_below pad s (total (take i s) + o) (omega arith) ∙ b.slot o h;
        edge = λ h g. subst (λ (c : Block). h + c.upper ≤ total (take i s)) (sym (padded_below pad s h (omega arith))) (b.edge h g);
        room = λ h e. (ended pad s).room h (padded_free h e);
      }

  pub padded_zones : {Z E : ℕ → ℕ} {k : ℕ} → total s ≤ 250 → Zones (slot_at s) Z E k → Zones (padded_at pad s) Z E k
  padded_zones {Z} {E} {k} short z = record {
    free = λ j q b x. subst (λ (c : Block). c.lower ≡ 0) (sym (below j q b x)) (z.free j q b x);
    stop = λ j q e b x y. subst (λ (c : Block). e ≡ q + c.upper) (sym (below j q b x)) (z.stop j q e b x y);
    find = λ q f.
        let same = padded_below pad s q (padded_free q f) in
        let r = z.find q (subst (λ (c : Block). c.lower ≡ 0) same f) in
        (r.0, r.1, r.2, subst (λ (c : Block). Holds (E r.0) (q + c.upper)) (sym same) r.3);
    within = λ q c h. ⊎_elim (λ l. omega arith) (λ e. omega arith) (padded_held q c h);
  }
    where
      below : (j q : ℕ) → j < k → Holds (Z j) q → padded_at pad s q ≡ slot_at s q
      below j q b x = padded_below pad s q (free_within s q (z.free j q b x))

  pub padded_rows : {B S : ℕ → ℕ} {k : ℕ} → ((j q : ℕ) → j < k → Holds (S j) q → q < total s) → SlotRows (slot_at s) B S k → PaddedRows (padded_at pad s) B S k pad (total s)
  padded_rows {B} {S} within r = record {
    base = λ j q b x. ap (λ (v : Block). v.base) (padded_below pad s q (within j q b x)) ∙ r.base j q b x;
    find = λ q c h. ⊎_elim (λ l. inl (r.find q c (subst (λ (v : Block). Holds v.base c) (padded_below pad s q l) h))) inr (padded_held q c h);
    last = ap (λ (b : Block). b.base) (padded_end pad s);
  }

  -- where a base shares a character with the blocks, and with the padding
  pub padded_shares : {base on waits : ℕ} → total s ≤ 250 → Exactly on (λ q. Meets base (slot_at s q).base) → Exactly waits (λ q. Meets base pad × (q ≡ total s)) → Shares (padded_at pad s) base on waits
  padded_shares {base} short x y = record {
    goes = exactly_as
        (λ q m.
        let l = held_within s q m.shared m.second in
        (subst (λ (b : Block). Meets base b.base) (sym (padded_below pad s q l)) m, (ended pad s).room q l))
        (λ q m. subst (λ (b : Block). Meets base b.base) (padded_slot pad s q (λ e. not_end q e m.1)) m.0)
        x;
    stays = exactly_as
        (λ q m. let e = ap (padded_at pad s) m.1 ∙ padded_end pad s in (subst (λ (b : Block). Meets base b.base) (sym e) m.0, ap (λ (b : Block). b.upper) e))
        (λ q m. ⊎_elim
        (λ l. let r = (ended pad s).room q l in let z = m.1 in absurd (omega arith))
        (λ e. (subst (λ (b : Block). Meets base b.base) (ap (padded_at pad s) e ∙ padded_end pad s) m.0, e))
        (padded_held q m.0.shared m.0.second))
        y;
    within = λ q c h. ⊎_elim (λ l. omega arith) (λ e. omega arith) (padded_held q c h);
  }
    where
      not_end : (q : ℕ) → q ≡ total s → 0 < (padded_at pad s q).upper → ⊥
      not_end q e r = let z = subst (λ (x : ℕ). (padded_at pad s x).upper ≡ 0) (sym e) (ended pad s).no_room in omega arith
