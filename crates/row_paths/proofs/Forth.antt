-- One block's rows from the starts: how its positions and the next block's first are entered. Assumes nothing.
use mathlib.Core.Path.{◌≡◌, refl, sym, ap, ◌∙◌, subst}
use mathlib.Core.Logic.{◌⊎◌, inl, inr, ⊎_elim}
use Prim.Native.Nat.{ℕ, ◌+◌, ◌-◌, ◌*◌, ◌%◌, ◌^◌, ◌≤◌, ◌<◌}
use native.Mathlib.Omega.{arith}
use lib.Bits.{bit_and, bit_or}
use Rattle.bases.specs.Base.{Holds, Meets}
use Rattle.plain.proofs.Plain.{lt_or_le}
use Rattle.sets.specs.Set.{Exactly}
use Rattle.sets.proofs.Exact.{exactly_as, none_exactly, both_exactly, either_exactly, up_exactly}
use Rattle.shapes.specs.Shape.{Block}
use Rattle.pads.specs.Pad.{PadPath, after}
use Rattle.pads.proofs.Paths.{after_on, after_stays}
use Rattle.row_paths.specs.Rows.{Shares, Onto, Onwards, BlockIn, Entered, start, ended, taken, Comes, Stops}

module _ {X : ℕ → Block} {p : ℕ} {b : Block} (k : BlockIn X p b) where
  pub slot_base : (o : ℕ) → o < b.upper → (X (p + o)).base ≡ b.base
  slot_base o h = ap (λ (x : Block). x.base) (k.slot o h)

  pub slot_lower : (o : ℕ) → o < b.upper → (X (p + o)).lower ≡ b.lower - o
  slot_lower o h = ap (λ (x : Block). x.lower) (k.slot o h)

  pub slot_upper : (o : ℕ) → o < b.upper → (X (p + o)).upper ≡ b.upper - o
  slot_upper o h = ap (λ (x : Block). x.upper) (k.slot o h)

  -- it has room at its positions, so that the next is one on
  pub block_on : (o : ℕ) → o < b.upper → p + o + 1 ≡ after X (p + o)
  block_on o h = sym (after_on X (p + o) (let a = slot_upper o h in omega arith))

  -- a run that may end, and ends within the block or at its end, has begun in it and ends at its end
  pub ends_here : (h o : ℕ) → (X h).lower ≡ 0 → p + o ≡ h + (X h).upper → 0 < o → o ≤ b.upper → (i : ℕ) × (h ≡ p + i) × (i < b.upper) × (o ≡ b.upper) × (b.lower ≤ i)
  ends_here h o l e pos le =
      let r = k.room h l in
      ⊎_elim
      (λ c. let g = k.edge h c in absurd (omega arith))
      (λ c.
      let i : ℕ = h - p in
      let at : h ≡ p + i = omega arith in
      let small : i < b.upper = omega arith in
      let up : (X h).upper ≡ b.upper - i = ap (λ (x : ℕ). (X x).upper) at ∙ slot_upper i small in
      let low : (X h).lower ≡ b.lower - i = ap (λ (x : ℕ). (X x).lower) at ∙ slot_lower i small in
      (i, at, small, omega arith, omega arith))
      (lt_or_le h p)

module _ {X Y : ℕ → Block} {p : ℕ} {b : Block} (k : BlockIn X p b) where
  -- ---- the positions within

  comes_entered : {o j : ℕ} → o < b.upper → Comes X Y p b o j → Entered X Y (p + o) j
  comes_entered {j = j} l (Comes.first e n) = subst (λ (x : ℕ). Entered X Y x j) (let z : p ≡ p + _ = omega arith in z) n
  comes_entered l (Comes.taken h q e f m w) = taken (p + h) q (omega arith) f (let u = slot_upper k h (omega arith) in omega arith) (subst (λ (x : ℕ). Meets x (Y q).base) (sym (slot_base k h (omega arith))) m) w

  entered_comes : {o j : ℕ} → o < b.upper → Entered X Y (p + o) j → Comes X Y p b o j
  entered_comes {o} {j} l n = ⊎_elim
      (λ z. let e : o ≡ 0 = omega arith in Comes.first e (subst (λ (x : ℕ). Entered X Y x j) (let y : p + o ≡ p = omega arith in y) n))
      (λ z. within n z)
      (lt_or_le o 1)
    where
      within : Entered X Y (p + o) j → 1 ≤ o → Comes X Y p b o j
      within (start e f) z = absurd (omega arith)
      within (ended h g e w) z = let i = ends_here k h o g e z (omega arith) in let x = i.3 in absurd (omega arith)
      within (taken h q e f r m w) z =
          let at : h ≡ p + (o - 1) = omega arith in
          Comes.taken (o - 1) q (omega arith) f (subst (λ (x : ℕ). Meets x (Y q).base) (ap (λ (x : ℕ). (X x).base) at ∙ slot_base k (o - 1) (omega arith)) m) (subst (λ (x : ℕ). PadPath X Y x q 0 0) at w)

  pub enter_within : {s o : ℕ} → o < b.upper → Exactly s (Comes X Y p b o) → Exactly s (Entered X Y (p + o))
  enter_within l x = exactly_as (λ j c. comes_entered l c) (λ j n. entered_comes l n) x

  -- ---- the next block's first position

  pub enter_next : {s t u : ℕ} → u ≡ bit_or s t → Exactly s (Comes X Y p b b.upper) → Exactly t (Stops X Y p b b.upper)
      → Exactly u (Entered X Y (p + b.upper))
  enter_next {s} {t} e x y = exactly_as to from (either_exactly s t e)
    where
      by_last : {j : ℕ} → Comes X Y p b b.upper j → Entered X Y (p + b.upper) j
      by_last {j} (Comes.first e n) = subst (λ (x : ℕ). Entered X Y x j) (let z : p ≡ p + b.upper = omega arith in z) n
      by_last (Comes.taken h q e f m w) = taken (p + h) q (omega arith) f (let u = slot_upper k h (omega arith) in omega arith) (subst (λ (x : ℕ). Meets x (Y q).base) (sym (slot_base k h (omega arith))) m) w

      by_end : {j : ℕ} → Stops X Y p b b.upper j → Entered X Y (p + b.upper) j
      by_end w =
          let l = w.enough in
          let h = w.before in
          let low = slot_lower k w.number h in
          let up = slot_upper k w.number h in
          ended (p + w.number) (omega arith) (omega arith) w.reached

      to : (j : ℕ) → Holds s j ⊎ Holds t j → Entered X Y (p + b.upper) j
      to j h = ⊎_elim (λ a. by_last (x.so j a)) (λ a. by_end (y.so j a)) h

      later : {j : ℕ} → 1 ≤ b.upper → Entered X Y (p + b.upper) j → Holds s j ⊎ Holds t j
      later z (start e f) = absurd (omega arith)
      later {j} z (ended h g e w) =
          let i = ends_here k h b.upper g e z (omega arith) in
          inr (y.has j (record { number = i.0; enough = i.4; before = i.2; reached = subst (λ (x : ℕ). PadPath X Y x j 0 0) i.1 w }))
      later {j} z (taken h q e f r m w) =
          let o : ℕ = b.upper - 1 in
          let at : h ≡ p + o = omega arith in
          inl (x.has j (Comes.taken o q (omega arith) f (subst (λ (x : ℕ). Meets x (Y q).base) (ap (λ (x : ℕ). (X x).base) at ∙ slot_base k o (omega arith)) m) (subst (λ (x : ℕ). PadPath X Y x q 0 0) at w)))

      from : (j : ℕ) → Entered X Y (p + b.upper) j → Holds s j ⊎ Holds t j
      from j n = ⊎_elim
          (λ z. inl (x.has j (Comes.first (omega arith) (subst (λ (x : ℕ). Entered X Y x j) (let y : p + b.upper ≡ p = omega arith in y) n))))
          (λ z. later z n)
          (lt_or_le b.upper 1)

-- ---- one character: Y goes on, or it has ended and waits

shared_onto : {Y : ℕ → Block} {base : ℕ} (row on waits v w : ℕ) {a r : ℕ} → Shares Y base on waits → a ≡ bit_and row on → v ≡ a * 2 % 2 ^ 256 → w ≡ bit_and row waits → r ≡ bit_or v w
    → Exactly r (Onto Y base row)
shared_onto {Y} {base} row on waits v w {a} y e f g d = exactly_as to from (either_exactly v w d)
  where
    to : (j : ℕ) → Holds v j ⊎ Holds w j → Onto Y base row j
    to j h = ⊎_elim
        (λ c.
        let n = ((up_exactly a 256 f).so j c).1 in
        let l = (both_exactly row on e).so n.number n.held in
        let m = y.goes.so n.number l.1 in
        record { from = n.number; held = l.0; meets = m.0; next = n.next ∙ sym (after_on Y n.number m.1) })
        (λ c.
        let l = (both_exactly row waits g).so j c in
        let m = y.stays.so j l.1 in
        record { from = j; held = l.0; meets = m.0; next = sym (after_stays Y j m.1) })
        h

    from : (j : ℕ) → Onto Y base row j → Holds v j ⊎ Holds w j
    from j n =
        let m = n.meets in
        let c = y.within n.from m.shared m.second in
        ⊎_elim
        (λ none.
        let stays : (Y n.from).upper ≡ 0 = omega arith in
        inr (subst (Holds w) (sym (n.next ∙ after_stays Y n.from stays)) ((both_exactly row waits g).has n.from (n.held, y.stays.has n.from (m, stays)))))
        (λ room.
        let next : j ≡ n.from + 1 = n.next ∙ after_on Y n.from room in
        inl ((up_exactly a 256 f).has j (omega arith, record { number = n.from; held = (both_exactly row on e).has n.from (n.held, y.goes.has n.from (m, room)); next = next })))
        (lt_or_le (Y n.from).upper 1)

pub onwards : (row on waits v w : ℕ) {a r : ℕ} → a ≡ bit_and row on → v ≡ a * 2 % 2 ^ 256 → w ≡ bit_and row waits → r ≡ bit_or v w → Onwards row on waits r
onwards row on waits v w e f g d = record { holds = λ Y base y. shared_onto row on waits v w y e f g d }

-- ---- the loop over a block's characters

module _ {X Y : ℕ → Block} {p : ℕ} {b : Block} where
  pub comes_none : {s : ℕ} → Exactly s (Entered X Y p) → Exactly s (Comes X Y p b 0)
  comes_none x = exactly_as (λ j n. Comes.first refl n) back x
    where
      back : (j : ℕ) → Comes X Y p b 0 j → Entered X Y p j
      back j (Comes.first e n) = n
      back j (Comes.taken h l e f m w) = absurd (omega arith)

  pub between_none : {n : ℕ} → n ≡ 0 → Exactly n (Stops X Y p b 0)
  between_none e = none_exactly e (λ j w. let h = w.before in omega arith)

  pub comes_more : (r o : ℕ) {u : ℕ} → Exactly r (λ j. PadPath X Y (p + o) j 0 0) → Exactly u (Onto Y b.base r) → Exactly u (Comes X Y p b (o + 1))
  comes_more r o x y = exactly_as (λ j n. Comes.taken o n.from refl n.next n.meets (x.so n.from n.held)) from y
    where
      from : (j : ℕ) → Comes X Y p b (o + 1) j → Onto Y b.base r j
      from j (Comes.first e n) = absurd (omega arith)
      from j (Comes.taken h l e f m w) =
          let at : p + h ≡ p + o = omega arith in
          record { from = l; held = x.has l (subst (λ (q : ℕ). PadPath X Y q l 0 0) at w); meets = m; next = f }

  -- a row that counts, and one that does not
  pub between_more : (t r o : ℕ) {u : ℕ} → b.lower ≤ o → u ≡ bit_or t r → Exactly t (Stops X Y p b o) → Exactly r (λ j. PadPath X Y (p + o) j 0 0)
      → Exactly u (Stops X Y p b (o + 1))
  between_more t r o l e x y = exactly_as to from (either_exactly t r e)
    where
      to : (j : ℕ) → Holds t j ⊎ Holds r j → Stops X Y p b (o + 1) j
      to j h = ⊎_elim
          (λ a. let w = x.so j a in let z = w.before in record { number = w.number; enough = w.enough; before = omega arith; reached = w.reached })
          (λ a. record { number = o; enough = l; before = omega arith; reached = y.so j a })
          h

      from : (j : ℕ) → Stops X Y p b (o + 1) j → Holds t j ⊎ Holds r j
      from j w = ⊎_elim
          (λ c. inl (x.has j (record { number = w.number; enough = w.enough; before = c; reached = w.reached })))
          (λ c. let z = w.before in inr (y.has j (subst (λ (x : ℕ). PadPath X Y (p + x) j 0 0) (let g : w.number ≡ o = omega arith in g) w.reached)))
          (lt_or_le w.number o)

  pub between_same : {t : ℕ} (o : ℕ) → o < b.lower → Exactly t (Stops X Y p b o) → Exactly t (Stops X Y p b (o + 1))
  between_same o l x = exactly_as
      (λ j w. let z = w.before in record { number = w.number; enough = w.enough; before = omega arith; reached = w.reached })
      (λ j w. let z = w.before in let y = w.enough in absurd (omega arith)) x
