-- One row to the ends, and what it adds to what is gathered. Assumes nothing.
use mathlib.Core.Path.{◌≡◌, refl, sym, subst}
use mathlib.Core.Bool.{Bool, true, false, not, true≢false}
use mathlib.Core.Logic.{◌⊎◌, inl, inr, ⊎_elim}
use Prim.Native.Nat.{ℕ, ◌+◌, ◌/◌, ◌≤◌, ◌<◌}
use native.Mathlib.Omega.{arith}
use borrow.Author.Tests.{leb-true, le-leb, lt-leb}
use lib.Bits.{bit_and, bit_or}
use lib.Dec.{leb}
use Rattle.bases.specs.Base.{Holds, Empty, Meets}
use Rattle.plain.specs.Tells.{Tells}
use Rattle.bases.proofs.Laws.{none_in_zero}
use Rattle.plain.proofs.Plain.{lt_or_le, eq_or_ne}
use Rattle.bases.proofs.Sets.{some_held, turned}
use Rattle.sets.specs.Set.{Exactly}
use Rattle.sets.proofs.Exact.{exactly_as, exactly_at, none_exactly, both_exactly, either_exactly, down_exactly}
use Rattle.shapes.specs.Shape.{Block}
use Rattle.pads.specs.Pad.{PadPath, after, Roomy}
use Rattle.pads.proofs.Paths.{after_on, after_stays, turn_pad}
use Rattle.rows.specs.Steps.{Leads, Lands}
use Rattle.plain.proofs.Tells.{tells_so}
use Rattle.row_paths.specs.Rows.{Zones, Shares, Into, Inwards, BlockIn, LeadsOn, end, ended, taken, Quits, Takes, From, Seen, Used, Gathered}
use Rattle.row_paths.proofs.Left.{left_row}
use Rattle.row_paths.proofs.Forth.{slot_base, slot_lower, slot_upper, block_on}

pub turn_takes : {X Y : ℕ → Block} {U W h j : ℕ} → Takes X Y U W h j → Takes Y X W U j h
turn_takes t = record { reached = turn_pad t.reached; meets = turned t.meets; on = turn_pad t.on }

-- ---- where runs of Y end early and land in the row

module _ {X Y : ℕ → Block} {U W : ℕ} {Z E : ℕ → ℕ} {k : ℕ} (z : Zones Y Z E k) where
  pub quits_here : {i row cut f : ℕ} {u : ℕ} → Exactly row (λ j. PadPath X Y U W i j) → Exactly cut (Lands Z E k row) → Exactly f (λ j. PadPath X Y i j 0 0) → u ≡ bit_and f cut
      → Exactly u (λ j. Quits Y X W U j i)
  quits_here {i} {row} {cut} {f} x y g e = exactly_as to from (both_exactly f cut e)
    where
      to : (j : ℕ) → Holds f j × Holds cut j → Quits Y X W U j i
      to j h =
          let l = y.so j h.1 in
          let m = l.to in
          let at = z.stop l.number j m.shared l.below l.from m.first in
          record { reached = turn_pad (g.so j h.0); free = z.free l.number j l.below l.from; on = turn_pad (subst (λ (q : ℕ). PadPath X Y U W i q) at (x.so m.shared m.second)) }

      from : (j : ℕ) → Quits Y X W U j i → Holds f j × Holds cut j
      from j q =
          let r = z.find j q.free in
          (g.has j (turn_pad q.reached), y.has j (record { number = r.0; below = r.1; from = r.2; to = record { shared = _; first = r.3; second = x.has _ (turn_pad q.on) } }))

-- ---- one more row: what has P at i, or P from i + 1 on, has it from i on

from_more : {i : ℕ} {P : ℕ → Type 0} → P i ⊎ From (i + 1) P → From i P
from_more {i} h = ⊎_elim (λ p. record { number = i; from = omega arith; has = p }) (λ f. let l = f.from in record { number = f.number; from = omega arith; has = f.has }) h

from_less : {i : ℕ} (P : ℕ → Type 0) → From i P → P i ⊎ From (i + 1) P
from_less {i} P f = ⊎_elim (λ e. inl (subst P (sym e) f.has)) (λ n. let l = f.from in inr (record { number = f.number; from = omega (arith, n); has = f.has })) (eq_or_ne i f.number)

pub quit_more : {X Y : ℕ → Block} {U W i : ℕ} (s t : ℕ) {u : ℕ} → u ≡ bit_or s t → Exactly s (λ j. From (i + 1) (λ h. Quits Y X W U j h)) → Exactly t (λ j. Quits Y X W U j i)
    → Exactly u (λ j. From i (λ h. Quits Y X W U j h))
quit_more {X} {Y} {U} {W} {i} s t e x y = exactly_as
    (λ j h. from_more (⊎_elim (λ a. inr (x.so j a)) (λ a. inl (y.so j a)) h))
    (λ j f. ⊎_elim (λ a. inr (y.has j a)) (λ a. inl (x.has j a)) (from_less (λ h. Quits Y X W U j h) f))
    (either_exactly s t e)

-- a number is added where something is seen at it
pub seen_more : (P : ℕ → ℕ → Type 0) (i s u : ℕ) {A : Type 0} → (A → (q : ℕ) × P i q) → ((q : ℕ) → P i q → A)
    → Exactly u (λ h. Holds s h ⊎ (A × (h ≡ i))) → Exactly s (Seen (i + 1) P) → Exactly u (Seen i P)
seen_more P i s u {A} f g x y = exactly_as to from x
  where
    to : (h : ℕ) → Holds s h ⊎ (A × (h ≡ i)) → Seen i P h
    to h c = ⊎_elim
        (λ a. let v = y.so h a in let l = v.from in record { from = omega arith; other = v.other; has = v.has })
        (λ a. let e = a.1 in let v = f a.0 in record { from = omega arith; other = v.0; has = subst (λ (x : ℕ). P x v.0) (sym e) v.1 })
        c

    from : (h : ℕ) → Seen i P h → Holds s h ⊎ (A × (h ≡ i))
    from h v = ⊎_elim
        (λ e. inr (g v.other (subst (λ (x : ℕ). P x v.other) e v.has), e))
        (λ n. let l = v.from in inl (y.has h (record { from = omega (arith, n); other = v.other; has = v.has })))
        (eq_or_ne h i)

-- ---- one row of a block

-- one character, backwards: Y goes on, or it has ended and waits
shared_into : {Y : ℕ → Block} {base : ℕ} (row on waits d a w : ℕ) {r : ℕ} → Shares Y base on waits → d ≡ row / 2 → a ≡ bit_and d on → w ≡ bit_and row waits → r ≡ bit_or a w
    → Exactly r (Into Y base row)
shared_into {Y} {base} row on waits d a w y e f g h = exactly_as to from (either_exactly a w h)
  where
    to : (j : ℕ) → Holds a j ⊎ Holds w j → Into Y base row j
    to j c = ⊎_elim
        (λ q.
        let l = (both_exactly d on f).so j q in
        let m = y.goes.so j l.1 in
        record { meets = m.0; lands = subst (Holds row) (sym (after_on Y j m.1)) ((down_exactly row e).so j l.0) })
        (λ q.
        let l = (both_exactly row waits g).so j q in
        let m = y.stays.so j l.1 in
        record { meets = m.0; lands = subst (Holds row) (sym (after_stays Y j m.1)) l.0 })
        c

    from : (j : ℕ) → Into Y base row j → Holds a j ⊎ Holds w j
    from j n = ⊎_elim
        (λ none.
        let stays : (Y j).upper ≡ 0 = omega arith in
        inr ((both_exactly row waits g).has j (subst (Holds row) (after_stays Y j stays) n.lands, y.stays.has j (n.meets, stays))))
        (λ room.
        inl ((both_exactly d on f).has j ((down_exactly row e).has j (subst (Holds row) (after_on Y j room) n.lands), y.goes.has j (n.meets, room))))
        (lt_or_le (Y j).upper 1)

pub inwards : (row on waits d a w : ℕ) {r : ℕ} → d ≡ row / 2 → a ≡ bit_and d on → w ≡ bit_and row waits → r ≡ bit_or a w → Inwards row on waits r
inwards row on waits d a w e f g h = record { holds = λ Y base y. shared_into row on waits d a w y e f g h }

-- where Y has no padding it never waits
pub inwards_plain : {Y : ℕ → Block} {base : ℕ} → Roomy Y → (row on d : ℕ) {r : ℕ} → Exactly on (λ q. Meets base (Y q).base) → d ≡ row / 2 → r ≡ bit_and d on → Exactly r (Into Y base row)
inwards_plain {Y} y row on d x e f = exactly_as
    (λ j h. let m = x.so j h.1 in record { meets = m; lands = subst (Holds row) (sym (after_on Y j (y.has j m.shared m.second))) ((down_exactly row e).so j h.0) })
    (λ j n. let m = n.meets in ((down_exactly row e).has j (subst (Holds row) (after_on Y j (y.has j m.shared m.second)) n.lands), x.has j m))
    (both_exactly d on f)

module _ {X Y : ℕ → Block} {U W p : ℕ} {b : Block} (k : BlockIn X p b) (fits : p + b.upper ≤ U) (o : ℕ) (small : o < b.upper) where
  -- what is led to by one character of both
  pub taken_row : (next : ℕ) {t : ℕ} → Exactly next (λ j. PadPath X Y U W (p + o + 1) j) → Exactly t (Into Y b.base next)
      → Exactly t (λ j. Meets (X (p + o)).base (Y j).base × PadPath X Y U W (after X (p + o)) (after Y j))
  taken_row next x y = exactly_as
      (λ j h. (subst (λ (a : ℕ). Meets a (Y j).base) (sym (slot_base k o small)) h.meets, subst (λ (i : ℕ). PadPath X Y U W i (after Y j)) (block_on k o small) (x.so (after Y j) h.lands)))
      (λ j h. record { meets = subst (λ (a : ℕ). Meets a (Y j).base) (slot_base k o small) h.0; lands = x.has (after Y j) (subst (λ (i : ℕ). PadPath X Y U W i (after Y j)) (sym (block_on k o small)) h.1) })
      y

  -- the run may end there
  pub leaves_free : (t stop : ℕ) {u : ℕ} → b.lower ≤ o → Exactly t (λ j. Meets (X (p + o)).base (Y j).base × PadPath X Y U W (after X (p + o)) (after Y j))
      → Exactly stop (λ j. PadPath X Y U W (p + b.upper) j) → u ≡ bit_or t stop → Exactly u (LeadsOn X Y U W (p + o))
  leaves_free t stop l x y e = exactly_as to from (either_exactly t stop e)
    where
      low : (X (p + o)).lower ≡ 0
      low = let a = slot_lower k o small in omega arith

      at : p + b.upper ≡ p + o + (X (p + o)).upper
      at = let a = slot_upper k o small in omega arith

      to : (j : ℕ) → Holds t j ⊎ Holds stop j → LeadsOn X Y U W (p + o) j
      to j h = ⊎_elim (λ a. let w = x.so j a in taken w.0 w.1) (λ a. ended low (subst (λ (i : ℕ). PadPath X Y U W i j) at (y.so j a))) h

      from : (j : ℕ) → LeadsOn X Y U W (p + o) j → Holds t j ⊎ Holds stop j
      from j (end i f) = absurd (omega arith)
      from j (ended g w) = inr (y.has j (subst (λ (i : ℕ). PadPath X Y U W i j) (sym at) w))
      from j (taken m w) = inl (x.has j (m, w))

  -- it may not
  pub leaves_bound : {t : ℕ} → o < b.lower → Exactly t (λ j. Meets (X (p + o)).base (Y j).base × PadPath X Y U W (after X (p + o)) (after Y j)) → Exactly t (LeadsOn X Y U W (p + o))
  leaves_bound {t} l x = exactly_as (λ j w. taken w.0 w.1) from x
    where
      from : (j : ℕ) → LeadsOn X Y U W (p + o) j → Meets (X (p + o)).base (Y j).base × PadPath X Y U W (after X (p + o)) (after Y j)
      from j (end i f) = absurd (omega arith)
      from j (ended g w) = let a = slot_lower k o small in absurd (omega arith)
      from j (taken m w) = (m, w)

-- what both take there
pub takes_here : {X Y : ℕ → Block} {U W i : ℕ} (f t : ℕ) {u : ℕ} → Exactly f (λ j. PadPath X Y i j 0 0) → Exactly t (λ j. Meets (X i).base (Y j).base × PadPath X Y U W (after X i) (after Y j)) → u ≡ bit_and f t
    → Exactly u (λ j. Takes X Y U W i j)
takes_here f t x y e = exactly_as
    (λ j h. let w = y.so j h.1 in record { reached = x.so j h.0; meets = w.0; on = w.1 })
    (λ j k. (x.has j k.reached, y.has j (k.meets, k.on)))
    (both_exactly f t e)

pub used_more : {X Y : ℕ → Block} {U W i e : ℕ} (s t : ℕ) {u : ℕ} → i < e → u ≡ bit_or s t → Exactly s (Used X Y U W (i + 1) e) → Exactly t (λ j. Takes X Y U W i j) → Exactly u (Used X Y U W i e)
used_more {X} {Y} {U} {W} {i} {e} s t l d x y = exactly_as to from (either_exactly s t d)
  where
    to : (j : ℕ) → Holds s j ⊎ Holds t j → Used X Y U W i e j
    to j h = ⊎_elim
        (λ a. let v = x.so j a in let g = v.from in record { number = v.number; from = omega arith; before = v.before; takes = v.takes })
        (λ a. record { number = i; from = omega arith; before = l; takes = y.so j a })
        h

    from : (j : ℕ) → Used X Y U W i e j → Holds s j ⊎ Holds t j
    from j v = ⊎_elim
        (λ c. inr (y.has j (subst (λ (x : ℕ). Takes X Y U W x j) (sym c) v.takes)))
        (λ c. let g = v.from in inl (x.has j (record { number = v.number; from = omega (arith, c); before = v.before; takes = v.takes })))
        (eq_or_ne i v.number)

-- the row there: closed under the ends of runs of Y
pub row_before_lem : {X Y : ℕ → Block} {U W : ℕ} {Z E : ℕ → ℕ} {m p : ℕ} {b : Block} → Zones Y Z E m → BlockIn X p b → p + b.upper ≤ U
    → (o stop next step seeds : ℕ) {row : ℕ} → o < b.upper → Exactly stop (λ j. PadPath X Y U W (p + b.upper) j) → Exactly next (λ j. PadPath X Y U W (p + o + 1) j)
    → Exactly step (Into Y b.base next) → (leb b.lower o ≡ true → seeds ≡ bit_or step stop) → (leb b.lower o ≡ false → seeds ≡ step)
    → Exactly row (Leads Z E m seeds) → Exactly row (λ j. PadPath X Y U W (p + o) j)
row_before_lem {b = b} z k fits o stop next step seeds small y x se on off ro =
    let stepped = taken_row k fits o small next x se in
    left_row z
    (⊎_elim
    (λ c. exactly_at (off (lt-leb b.lower o c)) (leaves_bound k fits o small c stepped))
    (λ c. leaves_free k fits o small step stop c stepped y (on (le-leb b.lower o c)))
    (lt_or_le o b.lower)) ro

-- ---- all of it

not-true : (r : Bool) → not r ≡ true → r ≡ false
not-true true e = absurd (true≢false (sym e))
not-true false e = refl

false_not : (r : Bool) → (r ≡ true → ⊥) → not r ≡ true
false_not true n = absurd (n refl)
false_not false n = refl

-- a set that is not empty has something taken in it
pub some_taken : (here : ℕ) (bare : Bool) {P : ℕ → Type 0} → Tells bare (Empty here) → Exactly here P → not bare ≡ true → (q : ℕ) × P q
some_taken here bare tb x e =
    let s = some_held here (λ v. tb.not_so (not-true bare e) (subst Empty (sym v) none_in_zero)) in
    (s.0, x.so s.0 s.1)

pub none_taken : (here : ℕ) (bare : Bool) {P : ℕ → Type 0} → Tells bare (Empty here) → Exactly here P → (q : ℕ) → P q → not bare ≡ true
none_taken here bare tb x q w = false_not bare (λ e. unfold Empty in (tb.so e q (x.has q w)))

module _ {X Y : ℕ → Block} {U W : ℕ} {Z E : ℕ → ℕ} {m p : ℕ} {b : Block} (z : Zones Y Z E m) (k : BlockIn X p b) (fits : p + b.upper ≤ U) where
  pub gathered_more : (o f stop next step here seeds row cut early-cut used quit own-quit own-moved : ℕ) {used' quit' own-quit' own-moved' : ℕ} (early bare : Bool) → o < b.upper
      → Exactly f (λ j. PadPath X Y (p + o) j 0 0) → Exactly stop (λ j. PadPath X Y U W (p + b.upper) j)
      → Gathered X Y U W (p + o + 1) (p + b.upper) next used quit own-quit own-moved
      → Exactly step (Into Y b.base next) → here ≡ bit_and f step → (leb b.lower o ≡ true → seeds ≡ bit_or step stop) → (leb b.lower o ≡ false → seeds ≡ step)
      → Exactly row (Leads Z E m seeds) → Exactly cut (Lands Z E m row) → used' ≡ bit_or used here → early-cut ≡ bit_and f cut → quit' ≡ bit_or quit early-cut
      → Tells early ((leb b.lower o ≡ true) × Meets f stop) → Exactly own-quit' (λ e. Holds own-quit e ⊎ ((early ≡ true) × (e ≡ p + o)))
      → Tells bare (Empty here) → Exactly own-moved' (λ e. Holds own-moved e ⊎ ((not bare ≡ true) × (e ≡ p + o)))
      → Gathered X Y U W (p + o) (p + b.upper) row used' quit' own-quit' own-moved'
  gathered_more o f stop next step here seeds row cut early-cut used quit own-quit own-moved {used'} {quit'} {own-quit'} {own-moved'} early bare small x y g se he on off ro cu ue ec qe te qx tb mx = record {
    row_is = rowed;
    used_is = used_more used here (omega arith) ue g.used_is took;
    quit_is = quit_more quit early-cut qe g.quit_is (quits_here z rowed cu x ec);
    own_quit_is = seen_more (Quits X Y U W) (p + o) own-quit own-quit' ends (λ q w. tells_so te (ends_back q w)) qx g.own_quit_is;
    own_moved_is = seen_more (Takes X Y U W) (p + o) own-moved own-moved' (some_taken here bare tb took) (none_taken here bare tb took) mx g.own_moved_is;
  }
    where
      stepped : Exactly step (λ j. Meets (X (p + o)).base (Y j).base × PadPath X Y U W (after X (p + o)) (after Y j))
      stepped = taken_row k fits o small next g.row_is se

      took : Exactly here (λ j. Takes X Y U W (p + o) j)
      took = takes_here f step x stepped he

      rowed : Exactly row (λ j. PadPath X Y U W (p + o) j)
      rowed = row_before_lem z k fits o stop next step seeds small y g.row_is se on off ro

      at : p + b.upper ≡ p + o + (X (p + o)).upper
      at = let a = slot_upper k o small in omega arith

      ends : early ≡ true → (q : ℕ) × Quits X Y U W (p + o) q
      ends e =
          let w = te.so e in
          let h = w.1 in
          let l = leb-true b.lower o w.0 in
          let a = slot_lower k o small in
          (h.shared, record { reached = x.so h.shared h.first; free = omega arith; on = subst (λ (i : ℕ). PadPath X Y U W i h.shared) at (y.so h.shared h.second) })

      ends_back : (q : ℕ) → Quits X Y U W (p + o) q → (leb b.lower o ≡ true) × Meets f stop
      ends_back q w =
          let a = slot_lower k o small in
          let l = w.free in
          (le-leb b.lower o (omega arith), record { shared = q; first = x.has q w.reached; second = y.has q (subst (λ (i : ℕ). PadPath X Y U W i q) (sym at) w.on) })

-- ---- before the last row, and at a block's start

pub used_none : {X Y : ℕ → Block} {U W i n : ℕ} → n ≡ 0 → Exactly n (Used X Y U W i i)
used_none e = none_exactly e (λ j v. let l = v.from in let h = v.before in omega arith)
