-- The rows one after the other, while a character is read. Assumes nothing.
use mathlib.Core.Path.{◌≡◌, refl, sym, ◌∙◌, subst}
use mathlib.Core.Bool.{Bool, true}
use mathlib.Core.List.{List}
use mathlib.Core.Logic.{◌⊎◌, inl, inr, ⊎_elim}
use Prim.Native.Nat.{ℕ, ◌+◌, ◌-◌, ◌≤◌, ◌<◌}
use native.Mathlib.Omega.{arith}
use lib.ListN.{length}
use Rattle.bases.specs.Base.{Holds, Empty}
use Rattle.plain.specs.Tells.{Tells}
use Rattle.bases.proofs.Laws.{none_in_zero}
use Rattle.plain.proofs.Plain.{lt_or_le}
use Rattle.bases.proofs.Sets.{some_held}
use Rattle.sets.specs.Set.{Exactly}
use Rattle.sets.proofs.Exact.{exactly_as, exactly_at}
use Rattle.sets.specs.declared.Set.{Set}
use Rattle.rows.specs.Row.{row_in, PutRow}
use Rattle.rows.proofs.Rows.{rows_more}
use Rattle.find_borders.proofs.Collect.{collect_none, collect_more}
use Rattle.find_ways.proofs.Leads.{goes_enters, enters_from}
use Rattle.find_texts.specs.Match.{StateGoes}
use Rattle.find_rows.specs.Says.{SomeIn, LiveIn, Arrived, MovedTo, Moved, Underway}

-- the rows below t are moved, those from t on are as they were; `next` has the live ones among the first
pub record Stepping (mark : List ℕ) (base : ℕ) (keep : Bool) (was : List Set) (t : ℕ) (rows : List Set) (last next : ℕ) : Type 0 where
  pub under : Underway was rows t last
  pub done : (r : ℕ) → r < t → Exactly (row_in rows r) (MovedTo mark base keep was r)
  pub live : Exactly next (λ q. (q < t) × SomeIn rows q)

pub not_empty_some : {x q : ℕ} {rows : List Set} → row_in rows q ≡ x → (Empty x → ⊥) → SomeIn rows q
unfolding Empty
not_empty_some {x} {q} {rows} e n =
    let c = some_held x (λ z. n (λ d h. none_in_zero d (subst (λ (y : ℕ). Holds y d) z h))) in
    record { number = c.0; held = subst (λ (y : ℕ). Holds y c.0) (sym e) c.1 }

pub empty_none : {x q : ℕ} {rows : List Set} → row_in rows q ≡ x → Empty x → SomeIn rows q → ⊥
unfolding Empty
empty_none e n s = n s.number (subst (λ (y : ℕ). Holds y s.number) e s.held)

some_as : {a b : List Set} {q : ℕ} → row_in a q ≡ row_in b q → SomeIn a q → SomeIn b q
some_as e s = record { number = s.number; held = subst (λ (y : ℕ). Holds y s.number) e s.held }

module _ (mark : List ℕ) (base : ℕ) (keep : Bool) (was : List Set) where
  pub step_none : {last : ℕ} → Stepping mark base keep was 0 was last 0
  step_none = record {
    under = record { before = λ l. absurd (omega arith); left = λ q l. refl };
    done = λ r l. absurd (omega arith);
    live = collect_none (SomeIn was) (λ e l. absurd (omega arith));
  }

  pub step_more : {t last next here come row next' : ℕ} {rows rows' : List Set} {yes : Bool} → Stepping mark base keep was t rows last next → here ≡ row_in rows t
      → Exactly come (Arrived mark base was t) → Exactly row (λ k. Holds come k ⊎ ((keep ≡ true) × Holds here k)) → PutRow rows t row rows'
      → Tells yes (SomeIn rows' t) → Exactly next' (λ e. Holds next e ⊎ ((e ≡ t) × (yes ≡ true))) → Stepping mark base keep was (t + 1) rows' here next'
  step_more {t} {last} {next} {here} {come} {row} {next'} {rows} {rows'} s h a b p tells n =
      let same : here ≡ row_in was t = h ∙ s.under.left t (omega arith) in
      record {
        under = record {
          before = λ l. subst (λ (k : ℕ). here ≡ row_in was k) (let e : t ≡ t + 1 - 1 = omega arith in e) same;
          left = λ q l. p.kept q (λ z. omega arith) ∙ s.under.left q (omega arith);
        };
        done = rows_more (λ r x. Exactly x (MovedTo mark base keep was r)) p s.done (exactly_as
            (λ k x. ⊎_elim (λ y. inl (a.so k y)) (λ y. inr (y.0, subst (λ (v : ℕ). Holds v k) same y.1)) x)
            (λ k x. ⊎_elim (λ y. inl (a.has k y)) (λ y. inr (y.0, subst (λ (v : ℕ). Holds v k) (sym same) y.1)) x)
            b);
        live = collect_more (SomeIn rows') (exactly_as
            (λ q x. let l = x.0 in (l, some_as (sym (p.kept q (λ z. omega arith))) x.1))
            (λ q x. let l = x.0 in (l, some_as (p.kept q (λ z. omega arith)) x.1))
            s.live) tells n;
      }

  module _ {live end : ℕ} (alive : Exactly live (LiveIn mark was)) (few : end ≤ length mark)
      (past : (t q : ℕ) → end ≤ t → t < length mark → Holds live q → q + 1 < t) where
    -- no row past the end had anything
    nothing : (q : ℕ) → end ≤ q → q < length mark → SomeIn was q → ⊥
    nothing q l m s = let z = past q q l m (alive.has q (m, s)) in omega arith

    -- and nothing comes there
    none_comes : (r k : ℕ) → end ≤ r → r < length mark → Arrived mark base was r k → ⊥
    none_comes r k l m a =
        let t = a.step in
        let q = t.state in
        let z = past r q l m (alive.has q (t.small, record { number = t.length_before; held = t.from })) in
        let back : r ≡ r - 1 + 1 = omega arith in
        let f = (goes_enters mark q t.small {r = r - 1} (omega arith) (subst (StateGoes mark base q) back t.goes)).1 in
        let le = enters_from mark (r - 1) q f in
        omega arith

    pub step_moved : {rows : List Set} {last next : ℕ} → Stepping mark base keep was end rows last next → Moved mark base keep was rows
    step_moved {rows} s = record {
      each = λ r m. ⊎_elim
          (λ l. s.done r l)
          (λ l. exactly_at (s.under.left r l) (record {
            so = λ k h. absurd (nothing r l m (record { number = k; held = h }));
            has = λ k x. ⊎_elim (λ y. absurd (none_comes r k l m y)) (λ y. y.1) x;
          }))
          (lt_or_le r end);
    }

    pub step_live : {rows : List Set} {last next : ℕ} → Stepping mark base keep was end rows last next → Exactly next (LiveIn mark rows)
    step_live {rows} s = exactly_as
        (λ q x. let l = x.0 in (omega arith, x.1))
        (λ q x. ⊎_elim (λ l. (l, x.1)) (λ l. absurd (nothing q l x.0 (some_as (s.under.left q l) x.1))) (lt_or_le q end))
        s.live
