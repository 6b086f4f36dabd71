-- What a row leads to over padding, block by block: after each block the row has all that is reached up to its end.
-- Assumes nothing.
use mathlib.Core.Path.{◌≡◌, refl, sym, ◌∙◌, subst}
use mathlib.Core.Bool.{Bool, true, false, true≢false}
use mathlib.Core.Logic.{◌⊎◌, inl, inr, ⊎_elim}
use Prim.Native.Nat.{ℕ, ◌+◌, ◌≤◌, ◌<◌}
use native.Mathlib.Omega.{arith}
use lib.Bits.{bit_and, bit_or}
use Rattle.bases.specs.Base.{Holds, Empty, Meets, Least}
use Rattle.plain.proofs.Plain.{lt_or_le, eq_or_ne, true_or_false}
use Rattle.sets.specs.Set.{Exactly}
use Rattle.sets.proofs.Exact.{both_exactly, either_exactly}
use Rattle.shapes.specs.Shape.{Block}
use Rattle.pads.specs.Pad.{Along, here}
use Rattle.pad_rows.specs.Alone.{Trails}
use Rattle.pad_rows.specs.Code.{Over, kept, taken, quit}
use Rattle.row_paths.proofs.Reached.{along_then}
use Rattle.pad_rows.proofs.Along.{along_to, along_on, along_cross, over_pad, over_run, first_step, Bare, along_past, BlockRows}

-- ---- what the code makes of a block's rows

module _ {zone end slot r within : ℕ} {padded : Bool} (shares : within ≡ bit_and r slot) where
  -- the row is nowhere in the block
  pub over_apart : Empty within → Exactly r (Over zone end slot padded r)
  unfolding Empty
  over_apart none = record { so = λ q h. kept h; has = has }
    where
      has : (q : ℕ) → Over zone end slot padded r q → Holds r q
      has q (kept h) = h
      has q (taken a y h i l o) = absurd (none a ((both_exactly r slot shares).has a (h, i)))
      has q (quit a y h i z e) = absurd (none a ((both_exactly r slot shares).has a (h, i)))

  -- with padding: all from its first position there on
  pub over_taken : {first before block more n : ℕ} → padded ≡ true → Least within first → Exactly before (λ q. q < first) → block ≡ bit_or slot end
      → Exactly more (λ q. Holds block q × (Holds before q → ⊥)) → n ≡ bit_or r more → Exactly n (Over zone end slot padded r)
  over_taken {first} {more = more} {n = n} is least low both rest all = record {
    so = λ q h. ⊎_elim
        kept
        (λ u.
        let v = rest.so q u in
        let f = (both_exactly r slot shares).so first least.held in
        let l : first ≤ q = ⊎_elim (λ g. absurd (v.1 (low.has q g))) (λ g. g) (lt_or_le q first) in
        taken first is f.0 f.1 l ((either_exactly slot end both).so q v.0))
        ((either_exactly r more all).so q h);
    has = has;
  }
    where
      has : (q : ℕ) → Over zone end slot padded r q → Holds n q
      has q (kept h) = (either_exactly r more all).has q (inl h)
      has q (taken a y h i l o) =
          let f = least.least a ((both_exactly r slot shares).has a (h, i)) in
          (either_exactly r more all).has q (inr (rest.has q ((either_exactly slot end both).has q o, λ g. let z = low.so q g in omega arith)))
      has q (quit a y h i z e) = absurd (true≢false (sym is ∙ y))

  -- without padding, where its run may end
  pub over_quit : {n : ℕ} → padded ≡ false → Meets within zone → n ≡ bit_or r end → Exactly n (Over zone end slot padded r)
  over_quit {n} not m all = record {
    so = λ q h. ⊎_elim
        kept
        (λ u. let f = (both_exactly r slot shares).so m.shared m.first in quit m.shared not f.0 f.1 m.second u)
        ((either_exactly r end all).so q h);
    has = has;
  }
    where
      has : (q : ℕ) → Over zone end slot padded r q → Holds n q
      has q (kept h) = (either_exactly r end all).has q (inl h)
      has q (taken a y h i l o) = absurd (true≢false (sym y ∙ not))
      has q (quit a y h i z e) = (either_exactly r end all).has q (inr e)

  -- without padding, where it may not
  pub over_not : padded ≡ false → (Meets within zone → ⊥) → Exactly r (Over zone end slot padded r)
  over_not not apart = record { so = λ q h. kept h; has = has }
    where
      has : (q : ℕ) → Over zone end slot padded r q → Holds r q
      has q (kept h) = h
      has q (taken a y h i l o) = absurd (true≢false (sym y ∙ not))
      has q (quit a y h i z e) = absurd (apart (record { shared = a; first = (both_exactly r slot shares).has a (h, i); second = z }))

-- ---- what is reached up to a position

-- s, and what it leads to up to p
abbrev pub Trailed : (ℕ → Block) → ℕ → ℕ → ℕ → ℕ → Type 0
Trailed Y pad s p q = Holds s q ⊎ ((q ≤ p) × Trails Y pad s q)

module _ {Y : ℕ → Block} {pad s : ℕ} where
  trails_here : {q : ℕ} → Holds s q → Trails Y pad s q
  trails_here {q} h = record { from = q; held = h; along = here {q = q} refl }

  trails_on : {a q : ℕ} → Trails Y pad s a → Along Y pad q a → Trails Y pad s q
  trails_on t a = record { from = t.from; held = t.held; along = along_then t.along a }

  trails_of : {p q : ℕ} → Trailed Y pad s p q → Trails Y pad s q
  trails_of t = ⊎_elim trails_here (λ u. u.1) t

  -- before the first block
  pub trail_none : {p : ℕ} → p ≡ 0 → Exactly s (Trailed Y pad s p)
  trail_none z = record {
    so = λ q h. inl h;
    has = λ q t. ⊎_elim
        (λ h. h)
        (λ u. let l = u.0 in let o = along_on u.1.along in subst (Holds s) (let e : u.1.from ≡ q = omega arith in e) u.1.held)
        t;
  }

  module _ {p : ℕ} {b : Block} {zone end slot : ℕ} {padded : Bool} {r : ℕ} (k : BlockRows Y pad p b zone end slot padded) (x : Exactly r (Trailed Y pad s p)) where
    -- what the block adds is reached
    over_reached : (q : ℕ) → Over zone end slot padded r q → Trailed Y pad s (p + b.upper) q
    over_reached q (kept h) = ⊎_elim inl (λ u. let l = u.0 in inr (omega arith, u.1)) (x.so q h)
    over_reached q (taken a y h i l o) =
        let w = k.slot_is.so a i in
        let g : q ≤ p + b.upper = ⊎_elim (λ v. let z = k.slot_is.so q v in omega arith) (λ v. let z = k.end_is.so q v in omega arith) o in
        inr (g, trails_on (trails_of (x.so a h)) (over_pad k.at a q (k.told.so y) w.0 l g))
    over_reached q (quit a y h i z e) =
        let w = k.zone_is.so a z in
        let d = k.end_is.so q e in
        inr (omega arith, trails_on (trails_of (x.so a h)) (along_to (sym d) (over_run k.at a w.0 w.1)))

    -- from a position of the row in the block
    from_row : (a q : ℕ) → Holds r a → p ≤ a → a < q → q ≤ p + b.upper → Along Y pad q a → Over zone end slot padded r q
    from_row a q h l u g t = ⊎_elim
        (λ y. taken a y h in_slot (omega arith) (⊎_elim (λ v. inl (k.slot_is.has q (omega arith, v))) (λ v. inr (k.end_is.has q (omega arith))) (lt_or_le q (p + b.upper))))
        (λ y. ⊎_elim
        (λ e. absurd (omega arith))
        (⊎_elim (λ w. let f = w.1 in quit a y h in_slot (k.zone_is.has a (w.0, omega arith)) (k.end_is.has q (omega arith))) (λ m. absurd (k.told.not_so y m)))
        (first_step k.at q a l (omega arith) t))
        (true_or_false padded)
      where
        in_slot : Holds slot a
        in_slot = k.slot_is.has a (l, omega arith)

    -- what is reached within the block is reached from its start or from a position of s in it
    reached_over : (q : ℕ) → Trailed Y pad s (p + b.upper) q → Over zone end slot padded r q
    reached_over q (inl h) = kept (x.has q (inl h))
    reached_over q (inr (g, t)) = ⊎_elim
        (λ l. ⊎_elim
        (λ i. ⊎_elim
        (λ e. kept (x.has q (inl (subst (Holds s) e t.held))))
        (λ n. from_row t.from q (x.has t.from (inl t.held)) (omega arith) (let o = along_on t.along in omega (arith, n)) g t.along)
        (eq_or_ne t.from q))
        (λ i.
        let c = along_cross k.at.edge i (omega arith) t.along in
        from_row p q (x.has p (inr (omega arith, record { from = t.from; held = t.held; along = c.0 }))) (omega arith) l g c.1)
        (lt_or_le p t.from))
        (λ l. kept (x.has q (inr (l, t))))
        (lt_or_le p q)

    -- one block more
    pub trail_more : {p' r' : ℕ} → p' ≡ p + b.upper → Exactly r' (Over zone end slot padded r) → Exactly r' (Trailed Y pad s p')
    trail_more {r' = r'} e z =
        subst (λ (n : ℕ). Exactly r' (Trailed Y pad s n)) (sym e) (record { so = λ q h. over_reached q (z.so q h); has = λ q t. z.has q (reached_over q t) })

  -- after the last block: nothing goes past the end
  pub trail_all : {W p r : ℕ} → Bare Y W → p ≡ W → Exactly r (Trailed Y pad s p) → Exactly r (Trails Y pad s)
  trail_all {W} k e x = record {
    so = λ q h. trails_of (x.so q h);
    has = λ q t. ⊎_elim
        (λ l. x.has q (inl (subst (Holds s) (along_past k q t.from l t.along) t.held)))
        (λ l. x.has q (inr (omega arith, t)))
        (lt_or_le W q);
  }
