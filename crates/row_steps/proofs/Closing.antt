-- A row closed under all steps at once: what climbs from it through the zones, and what falls to it. Assumes nothing.
use mathlib.Core.Path.{◌≡◌, refl, sym, ap, ◌∙◌, subst}
use mathlib.Core.Logic.{◌⊎◌, inl, inr, ⊎_elim}
use Prim.Native.Nat.{ℕ, zero, suc, ◌+◌, ◌≤◌, ◌<◌}
use native.Mathlib.Omega.{arith}
use lib.Bits.{bit_and, bit_or}
use Rattle.bases.specs.Base.{Holds}
use Rattle.plain.proofs.Plain.{lt_or_le, eq_or_ne}
use Rattle.sets.specs.Set.{Exactly}
use Rattle.sets.proofs.Exact.{none_exactly, both_exactly, either_exactly}
use Rattle.carries.specs.Climb.{HeldThrough, Climbs, Falls}
use Rattle.carries.proofs.Doubled.{joined}
use Rattle.rows.specs.Steps.{Leads, there, step, Lands, InTurn, AnyOf, Together}

-- ---- sets in one

pub any_none : {A : ℕ → ℕ} {r : ℕ} → r ≡ 0 → Exactly r (AnyOf A 0)
any_none z = none_exactly z (λ q a. let h = a.below in omega arith)

pub any_more : {A : ℕ → ℕ} {j r t r' : ℕ} → Exactly r (AnyOf A j) → t ≡ A j → r' ≡ bit_or r t → Exactly r' (AnyOf A (j + 1))
any_more {A} {j} {r} {t} {r'} x e d =
    let all = either_exactly r t d in
    record {
      so = λ q h. ⊎_elim
          (λ o. let a = x.so q o in let l = a.below in record { number = a.number; below = omega arith; held = a.held })
          (λ n. record { number = j; below = omega arith; held = subst (λ (s : ℕ). Holds s q) e n })
          (all.so q h);
      has = λ q a. all.has q (let l = a.below in ⊎_elim
          (λ c. inl (x.has q (record { number = a.number; below = c; held = a.held })))
          (λ c.
          let same : a.number ≡ j = omega arith in
          inr (subst (λ (s : ℕ). Holds s q) (ap A same ∙ sym e) a.held))
          (lt_or_le a.number j));
    }

module _ {Z E : ℕ → ℕ} {k F S : ℕ} (turn : InTurn Z E k) (all : Together Z E k F S) where
  is_stop : (j q : ℕ) → j < k → Holds (E j) q → Holds S q
  is_stop j q h b = all.stops_is.has q (record { number = j; below = h; held = b })

  at_end : (j : ℕ) → j < k → Holds (E j) (turn.end j)
  at_end j h = (turn.stop j h).has (turn.end j) refl

  -- from a number of a zone up to its end
  run_filled : (j p : ℕ) → j < k → Holds (Z j) p → HeldThrough F p (turn.end j)
  run_filled j p h z t l u =
      let a = (turn.zone j h).so p z in
      all.free_is.has t (record { number = j; below = h; held = (turn.zone j h).has t (omega arith, u) })

  -- the zone of p, and that no end lies between p and that zone's
  record Ahead (p : ℕ) : Type 0 where
    number : ℕ
    below : number < k
    held : Holds (Z number) p
    past : p < turn.end number
    next : (e : ℕ) → Holds S e → p < e → turn.end number ≤ e

  ahead : (p : ℕ) → Holds F p → Ahead p
  ahead p h =
      let a = all.free_is.so p h in
      let i : ℕ = a.number in
      let z = (turn.zone i a.below).so p a.held in
      record {
        number = i;
        below = a.below;
        held = a.held;
        past = z.1;
        next = λ e s l.
            let b = all.stops_is.so e s in
            let j : ℕ = b.number in
            let at : e ≡ turn.end j = (turn.stop j b.below).so e b.held in
            ⊎_elim
            (λ c. let o = turn.order i j c b.below in omega arith)
            (λ c. ⊎_elim
            (λ same. let f = ap turn.end same in omega arith)
            (λ d. let o = turn.order j i (omega (arith, d)) a.below in absurd (omega arith))
            (eq_or_ne i j))
            (lt_or_le i j);
      }

  -- ---- forwards

  module _ {s : ℕ} where
    forth_so : {q : ℕ} → Leads E Z k s q → Holds s q ⊎ (Holds S q × Climbs F s q)
    forth_so (there h) = inl h
    forth_so (step {q = q} {e = e} j l a b t) =
        let at : q ≡ turn.end j = (turn.stop j l).so q a in
        let z = (turn.zone j l).so e b in
        let f : HeldThrough F e q = λ u v w. run_filled j e l b u v (omega arith) in
        inr (
          is_stop j q l a,
          ⊎_elim
              (λ h. record { from = e; held = h; past = omega arith; filled = f })
              (λ c. let d = c.1 in let past = d.past in record { from = d.from; held = d.held; past = omega arith; filled = joined F d.from e q d.filled f })
              (forth_so t),
        )

    forth_mark : (n p q : ℕ) → q ≤ p + n → Leads E Z k s p → p < q → Holds S q → HeldThrough F p q → Leads E Z k s q
    forth_mark zero p q m t h g f = absurd (omega arith)
    forth_mark (suc n) p q m t h g f =
        let a = ahead p (f p (omega arith) h) in
        let i : ℕ = a.number in
        let past = a.past in
        let u = a.next q g h in
        let led : Leads E Z k s (turn.end i) = step i a.below (at_end i a.below) a.held t in
        ⊎_elim
        (λ e. subst (Leads E Z k s) e led)
        (λ d. forth_mark n (turn.end i) q (omega arith) led (omega (arith, d)) g (λ v l w. f v (omega arith) w))
        (eq_or_ne (turn.end i) q)

    pub forth_closed : (n : ℕ) {c m r : ℕ} → ((q : ℕ) → Holds S q → q < n) → Exactly c (λ q. (q < n) × Climbs F s q) → m ≡ bit_and c S → r ≡ bit_or s m → Exactly r (Leads E Z k s)
    forth_closed n {c} {m} {r} small x dm dr =
        let shared = both_exactly c S dm in
        let whole = either_exactly s m dr in
        record {
          so = λ q h. ⊎_elim
              (λ o. there o)
              (λ g. let y = shared.so q g in let d = (x.so q y.0).1 in forth_mark q d.from q (omega arith) (there d.held) d.past y.1 d.filled)
              (whole.so q h);
          has = λ q t. whole.has q (⊎_elim inl (λ y. inr (shared.has q (x.has q (small q y.0, y.1), y.0))) (forth_so t));
        }

  -- ---- backwards

  module _ (s : ℕ) {t : ℕ} (dt : t ≡ bit_and s S) where
    falls_step : (j q e : ℕ) → j < k → Holds (Z j) q → Holds (E j) e → Holds s e ⊎ Falls F t e → Falls F t q
    falls_step j q e l a b h =
        let at : e ≡ turn.end j = (turn.stop j l).so e b in
        let z = (turn.zone j l).so q a in
        let f : HeldThrough F q e = λ u v w. run_filled j q l a u v (omega arith) in
        ⊎_elim
        (λ o. record { to = e; held = (both_exactly s S dt).has e (o, is_stop j e l b); before = omega arith; filled = f })
        (λ v. let before = v.before in record { to = v.to; held = v.held; before = omega arith; filled = joined F q e v.to f v.filled })
        h

    back_so : {q : ℕ} → Leads Z E k s q → Holds s q ⊎ Falls F t q
    back_so (there h) = inl h
    back_so (step {q = q} {e = e} j l a b u) = inr (falls_step j q e l a b (back_so u))

    back_end : (n q : ℕ) (v : Falls F t q) → v.to ≤ q + n → (a : Ahead q) → Leads Z E k s (turn.end a.number)
    back_end zero q v m a = let b = v.before in absurd (omega arith)
    back_end (suc n) q v m a =
        let i : ℕ = a.number in
        let past = a.past in
        let goal = (both_exactly s S dt).so v.to v.held in
        let u = a.next v.to goal.1 v.before in
        ⊎_elim
        (λ e. there (subst (Holds s) (sym e) goal.0))
        (λ d.
        let before : turn.end i < v.to = omega (arith, d) in
        let a' = ahead (turn.end i) (v.filled (turn.end i) (omega arith) before) in
        let v' : Falls F t (turn.end i) = record { to = v.to; held = v.held; before = before; filled = λ w l x. v.filled w (omega arith) x } in
        step a'.number a'.below a'.held (at_end a'.number a'.below) (back_end n (turn.end i) v' (omega arith) a'))
        (eq_or_ne (turn.end i) v.to)

    back_next : (q : ℕ) → Falls F t q → (a : Ahead q) → Leads Z E k s (turn.end a.number)
    back_next q v a = back_end v.to q v (omega arith) a

    front : {q : ℕ} → Falls F t q → Ahead q
    front {q} v = ahead q (v.filled q (omega arith) v.before)

    pub back_closed : {g r : ℕ} → Exactly g (Falls F t) → r ≡ bit_or s g → Exactly r (Leads Z E k s) × Exactly g (Lands Z E k r)
    back_closed {g} {r} x dr =
        let whole = either_exactly s g dr in
        let row : Exactly r (Leads Z E k s) = record {
          so = λ q h. ⊎_elim
              (λ o. there o)
              (λ n.
              let v = x.so q n in
              let a = front v in
              step a.number a.below a.held (at_end a.number a.below) (back_next q v a))
              (whole.so q h);
          has = λ q u. whole.has q (⊎_elim inl (λ v. inr (x.has q v)) (back_so u));
        } in (
          row,
          record {
            so = λ q h.
                let v = x.so q h in
                let a = front v in
                record {
                  number = a.number;
                  below = a.below;
                  from = a.held;
                  to = record { shared = turn.end a.number; first = at_end a.number a.below; second = row.has (turn.end a.number) (back_next q v a) };
                };
            has = λ q m.
                let to = m.to in
                x.has q (falls_step m.number q to.shared m.below m.from to.first (back_so (row.so to.shared to.second)));
          },
        )
