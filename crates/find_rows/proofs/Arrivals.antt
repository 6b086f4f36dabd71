-- One character more, row by row. Assumes nothing.
use mathlib.Core.Path.{◌≡◌, refl, sym, subst}
use mathlib.Core.List.{List}
use mathlib.Core.Logic.{inl, inr, ⊎_elim}
use Prim.Native.Nat.{ℕ, ◌+◌, ◌-◌, ◌*◌, ◌%◌, ◌^◌, ◌<◌}
use native.Mathlib.Omega.{arith}
use lib.Bits.{bit_and, bit_or}
use lib.ListN.{length, get_or}
use Rattle.bases.specs.Base.{Holds}
use Rattle.plain.proofs.Plain.{eq_or_ne}
use Rattle.sets.specs.Set.{Exactly}
use Rattle.sets.proofs.Exact.{exactly_as, both_exactly, either_exactly, up_exactly, none_exactly}
use Rattle.sets.specs.declared.Set.{Set}
use Rattle.rows.specs.Row.{row_in}
use Rattle.fit_rows.specs.Rows.{Picked}
use Rattle.find_ways.specs.Ways.{FallAt, Resets}
use Rattle.find_ways.proofs.Leads.{goes_enters, enters_goes, own_enters, enters_from}
use Rattle.find_rows.specs.Says.{LiveIn, Arrived, Underway}

module _ (mark : List ℕ) (base : ℕ) (was rows : List Set) {live : ℕ} (alive : Exactly live (LiveIn mark was)) where
  -- to state 0, from the states that are live
  pub arrived_none : {w g x last : ℕ} → Underway was rows 0 last → Resets mark base w → Exactly g (Picked (row_in rows) (bit_and w live)) → x ≡ g * 2 % 2 ^ 256
      → Exactly x (Arrived mark base was 0)
  arrived_none {w} {g} {x} u a p e =
      let b = both_exactly w live refl in
      exactly_as
      (λ k h.
      let o = h.1 in
      let z = p.so o.number o.held in
      let y = a.so z.number (b.so z.number z.held).0 in
      record {
        small = h.0;
        step = record {
          state = z.number;
          length_before = o.number;
          small = y.0;
          from = subst (λ (n : ℕ). Holds n o.number) (u.left z.number (omega arith)) z.there;
          goes = y.1;
          next = o.next;
        };
      })
      (λ k h.
      let t = h.step in
      let q = t.state in (
        h.small,
        record {
          number = t.length_before;
          held = p.has t.length_before (record {
            number = q;
            held = b.has q (a.has q (t.small, t.goes), alive.has q (t.small, record { number = t.length_before; held = t.from }));
            there = subst (λ (n : ℕ). Holds n t.length_before) (sym (u.left q (omega arith))) t.from;
          });
          next = t.next;
        },
      ))
      (up_exactly g 256 e)

  -- by character r of the mark to r + 1: from r itself, and from the live states above it
  module _ (r : ℕ) (small : r < length mark) {last : ℕ} (u : Underway was rows (r + 1) last) where
    before : last ≡ row_in was r
    before = subst (λ (n : ℕ). last ≡ row_in was n) (let e : r + 1 - 1 ≡ r = omega arith in e) (u.before (omega arith))

    pub arrived_on : {w g j x : ℕ} → Holds base (get_or mark r 0) → Exactly w (FallAt mark r) → Exactly g (Picked (row_in rows) (bit_and w live))
        → j ≡ bit_or last g → x ≡ j * 2 % 2 ^ 256 → Exactly x (Arrived mark base was (r + 1))
    arrived_on {w} {g} {j} {x} held a p d e =
        let b = both_exactly w live refl in
        let i = either_exactly last g d in
        exactly_as
        (λ k h.
        let o = h.1 in
        ⊎_elim
        (λ y. record {
          small = h.0;
          step = record {
            state = r;
            length_before = o.number;
            small = small;
            from = subst (λ (n : ℕ). Holds n o.number) before y;
            goes = enters_goes mark r small r held (own_enters mark r small);
            next = o.next;
          };
        })
        (λ y.
        let z = p.so o.number y in
        let f = a.so z.number (b.so z.number z.held).0 in
        let above = f.0 in
        record {
          small = h.0;
          step = record {
            state = z.number;
            length_before = o.number;
            small = f.1.0;
            from = subst (λ (n : ℕ). Holds n o.number) (u.left z.number (omega arith)) z.there;
            goes = enters_goes mark z.number f.1.0 r held f.1;
            next = o.next;
          };
        })
        (i.so o.number o.held))
        (λ k h.
        let t = h.step in
        let q = t.state in
        let n = t.length_before in
        let f = (goes_enters mark q t.small small t.goes).1 in
        let le = enters_from mark r q f in (
          h.small,
          record {
            number = n;
            held = i.has n (⊎_elim
                (λ z. inl (subst (λ (v : ℕ). Holds v n) (sym before) (subst (λ (v : ℕ). Holds (row_in was v) n) z t.from)))
                (λ z.
                let above : r < q = omega arith in
                inr (p.has n (record {
                  number = q;
                  held = b.has q (a.has q (above, f), alive.has q (t.small, record { number = n; held = t.from }));
                  there = subst (λ (v : ℕ). Holds v n) (sym (u.left q (omega arith))) t.from;
                })))
                (eq_or_ne q r));
            next = t.next;
          },
        ))
        (up_exactly j 256 e)

    -- where the base has it not
    pub arrived_not : {x : ℕ} → (Holds base (get_or mark r 0) → ⊥) → x ≡ 0 → Exactly x (Arrived mark base was (r + 1))
    arrived_not n z = none_exactly z (λ k h. n (goes_enters mark h.step.state h.step.small small h.step.goes).0)
