-- What a pass has done by now: a row closed under the steps done, and the sets that those picked. Assumes nothing.
use mathlib.Core.Path.{◌≡◌, refl, sym, ap, ◌∙◌, subst}
use mathlib.Core.Bool.{Bool, true, false}
use mathlib.Core.List.{List}
use mathlib.Core.Logic.{◌⊎◌, inl, inr, ⊎_elim}
use Prim.Native.Nat.{ℕ, ◌+◌, ◌-◌, ◌≤◌, ◌<◌}
use native.Mathlib.Omega.{arith}
use lib.Bits.{bit_or}
use lib.ListN.{length}
use Rattle.bases.specs.Base.{Holds, Meets}
use Rattle.plain.specs.Tells.{Tells}
use Rattle.plain.proofs.Plain.{lt_or_le, eq_or_ne}
use Rattle.bases.proofs.Sets.{either, in_first, in_second, turned}
use Rattle.sets.specs.declared.Set.{Set}
use Rattle.sets.specs.Set.{Exactly}
use Rattle.sets.proofs.Exact.{none_exactly, exactly_as}
use Rattle.rows.specs.Row.{row_in, PutRow}
use Rattle.rows.proofs.Rows.{rows_more}
use Rattle.rows.specs.Steps.{Leads, there, step, Lands, InTurn}

-- ---- one set added to another

-- t is added to s where P holds
pub record Added (P : Type 0) (s t r : ℕ) : Type 0 where
  pub so : (q : ℕ) → Holds r q → Holds s q ⊎ (P × Holds t q)
  pub kept : (q : ℕ) → Holds s q → Holds r q
  pub more : (q : ℕ) → P → Holds t q → Holds r q

pub added_so : {P : Type 0} {s t u r : ℕ} → P → u ≡ t → r ≡ bit_or s u → Added P s t r
added_so {P} {s} {t} {u} {r} p same e = subst (λ (x : ℕ). Added P s x r) same (subst (Added P s u) (sym e) (record {
  so = λ q h. ⊎_elim inl (λ v. inr (p, v)) (either s u q h);
  kept = λ q h. in_first s u q h;
  more = λ q _ h. in_second s u q h;
}))

pub added_not : {P : Type 0} {s t r : ℕ} → (P → ⊥) → r ≡ s → Added P s t r
added_not {P} {s} {t} n e = subst (Added P s t) (sym e) (record { so = λ q h. inl h; kept = λ q h. h; more = λ q p h. absurd (n p) })

-- the same, by what P means
added_where : {P Q : Type 0} {s t r : ℕ} → (P → Q) → (Q → P) → Added P s t r → Added Q s t r
added_where f g d = record {
  so = λ q h. ⊎_elim inl (λ u. inr (f u.0, u.1)) (d.so q h);
  kept = d.kept;
  more = λ q p h. d.more q (g p) h;
}

-- a test tells whether s meets b, by whatever stands for b
pub tells_met : {on : Bool} {s a b : ℕ} → a ≡ b → Tells on (Meets s a) → Tells on (Meets s b)
tells_met {on} {s} e t = subst (λ (x : ℕ). Tells on (Meets s x)) e t

pub tells_met_word : {on : Bool} {w a b : ℕ} → a ≡ b → Tells on (Meets a w) → Tells on (Meets w b)
tells_met_word e t = tells_met e (record { so = λ h. turned (t.so h); not_so = λ h m. t.not_so h (turned m) })

-- a set added where a test says so
pub added_with : {P : Type 0} (on : Bool) {s t u r : ℕ} → Tells on P → u ≡ t → (on ≡ true → r ≡ bit_or s u) → (on ≡ false → r ≡ s) → Added P s t r
added_with true t e add keep = added_so (t.so refl) e (add refl)
added_with false t e add keep = added_not (t.not_so refl) (keep refl)

-- ---- which steps are done

-- step j is done too, and no other
pub record Next (D : ℕ → Type 0) (j : ℕ) (D' : ℕ → Type 0) : Type 0 where
  pub so : (i : ℕ) → D' i → D i ⊎ (i ≡ j)
  pub kept : (i : ℕ) → D i → D' i
  pub more : D' j

-- those below j; those from j on
abbrev pub Below : ℕ → ℕ → Type 0
Below j i = i < j

abbrev pub From : ℕ → ℕ → ℕ → Type 0
From j k i = (j ≤ i) × (i < k)

pub next_up : (j : ℕ) → Next (Below j) j (Below (j + 1))
next_up j = record { so = λ i h. ⊎_elim inl (λ l. inr (omega arith)) (lt_or_le i j); kept = λ i h. omega arith; more = omega arith }

next_down : (j k : ℕ) → 0 < j → j ≤ k → Next (From j k) (j - 1) (From (j - 1) k)
next_down j k p l = record {
  so = λ i h. let a = h.0 in ⊎_elim (λ e. inr e) (λ n. inl (omega (arith, n), h.1)) (eq_or_ne i (j - 1));
  kept = λ i h. let a = h.0 in (omega arith, h.1);
  more = (omega arith, omega arith);
}

-- ---- what is picked

-- one of the steps done has P and holds q
pub record Picked (D P : ℕ → Type 0) (T : ℕ → ℕ) (q : ℕ) : Type 0 where
  pub number : ℕ
  pub done : D number
  pub on : P number
  pub held : Holds (T number) q

pub picked_none : {D P : ℕ → Type 0} {T : ℕ → ℕ} {r : ℕ} → ((i : ℕ) → D i → ⊥) → r ≡ 0 → Exactly r (Picked D P T)
picked_none n z = none_exactly z (λ q p. n p.number p.done)

-- whether a step done has P is settled: it does not change when one more is done
pub picked_more : {D D' P P' : ℕ → Type 0} {T : ℕ → ℕ} {j r r' : ℕ} → Next D j D'
    → ((i : ℕ) → D i → P i → P' i) → ((i : ℕ) → D i → P' i → P i)
    → Exactly r (Picked D P T) → Added (P' j) r (T j) r' → Exactly r' (Picked D' P' T)
picked_more {D} {D'} {P} {P'} {T} {j} {r} {r'} n to from x d = record {
  so = λ q h. ⊎_elim
      (λ u. let p = x.so q u in
      record { number = p.number; done = n.kept p.number p.done; on = to p.number p.done p.on; held = p.held })
      (λ u. record { number = j; done = n.more; on = u.0; held = u.1 })
      (d.so q h);
  has = λ q p. ⊎_elim
      (λ i. d.kept q (x.has q (record { number = p.number; done = i; on = from p.number i p.on; held = p.held })))
      (λ e. d.more q (subst P' e p.on) (subst (λ (i : ℕ). Holds (T i) q) e p.held))
      (n.so p.number p.done);
}

-- ---- what is reached

-- r holds s and only what leads to s, and no step done leads from without into it
pub record Reached (A B : ℕ → ℕ) (k s : ℕ) (D : ℕ → Type 0) (r : ℕ) : Type 0 where
  pub from : (q : ℕ) → Holds s q → Holds r q
  pub so : (q : ℕ) → Holds r q → Leads A B k s q
  pub closed : (i q : ℕ) → D i → Meets r (B i) → Holds (A i) q → Holds r q

-- what is added wakes none of the steps: they meet what they met before
meets_after : {P : Type 0} {s t r : ℕ} (b : ℕ) → Added P s t r → Meets s b → Meets r b
meets_after b d m = record { shared = m.shared; first = d.kept m.shared m.first; second = m.second }

meets_before : {P : Type 0} {s t r : ℕ} (b : ℕ) → Added P s t r → ((q : ℕ) → Holds t q → Holds b q → ⊥) → Meets r b → Meets s b
meets_before b d apart m = ⊎_elim
    (λ h. record { shared = m.shared; first = h; second = m.second })
    (λ h. absurd (apart m.shared h.1 m.second))
    (d.so m.shared m.first)

module _ {A B : ℕ → ℕ} {k s : ℕ} {D : ℕ → Type 0} where
  pub reached_none : ((i : ℕ) → D i → ⊥) → Reached A B k s D s
  reached_none n = record { from = λ q h. h; so = λ q h. there h; closed = λ i q d. absurd (n i d) }

  reached_more : {D' : ℕ → Type 0} {j r r' : ℕ} → Next D j D' → j < k → ((i q : ℕ) → D' i → Holds (A j) q → Holds (B i) q → ⊥)
      → Reached A B k s D r → Added (Meets r (B j)) r (A j) r' → Reached A B k s D' r'
  reached_more {D'} {j} {r} {r'} n l apart c d = record {
    from = λ q h. d.kept q (c.from q h);
    so = λ q h. ⊎_elim
        (c.so q)
        (λ u. step j l u.1 u.0.second (c.so u.0.shared u.0.first))
        (d.so q h);
    closed = λ i q h m a.
        let m₀ : Meets r (B i) = meets_before (B i) d (λ e. apart i e h) m in ⊎_elim
        (λ o. d.kept q (c.closed i q o m₀ a))
        (λ e. d.more q (subst (λ (x : ℕ). Meets r (B x)) e m₀) (subst (λ (x : ℕ). Holds (A x) q) e a))
        (n.so i h);
  }

  module _ {r : ℕ} (all : (i : ℕ) → i < k → D i) where
    reached_mark : Reached A B k s D r → (q : ℕ) → Leads A B k s q → Holds r q
    reached_mark c q (there h) = c.from q h
    reached_mark c q (step {e = e} j l a b t) = c.closed j q (all j l) (record { shared = e; first = reached_mark c e t; second = b }) a

    -- all steps are done
    pub reached_all : Reached A B k s D r → Exactly r (Leads A B k s)
    reached_all c = record { so = c.so; has = reached_mark c }

-- from where a step done leads into the row: one that is done meets the row as it did when it was
landed_more : {A B : ℕ → ℕ} {D D' : ℕ → Type 0} {j r r' t t' : ℕ} → Next D j D' → ((i q : ℕ) → D' i → Holds (A j) q → Holds (B i) q → ⊥)
    → Exactly t (Picked D (λ i. Meets r (B i)) A) → Added (Meets r (B j)) r (A j) r' → Added (Meets r (B j)) t (A j) t'
    → Exactly t' (Picked D' (λ i. Meets r' (B i)) A)
landed_more {B = B} {j = j} n apart x d e = picked_more n
    (λ i h. meets_after (B i) d)
    (λ i h. meets_before (B i) d (λ q. apart i q (n.kept i h)))
    x
    (added_where (meets_after (B j) d) (meets_before (B j) d (λ q. apart j q n.more)) e)

-- ---- one step of a pass down

-- no zone reaches the end of its own step or of a later one
in_turn_apart : {Z E : ℕ → ℕ} {k : ℕ} → InTurn Z E k → (i j q : ℕ) → i ≤ j → j < k → Holds (Z i) q → Holds (E j) q → ⊥
in_turn_apart t i j q l h a b =
    let z = (t.zone i (omega arith)).so q a in
    let e = (t.stop j h).so q b in
    ⊎_elim (λ c. let o = t.order i j c h in omega arith) (λ c. let same : i ≡ j = omega arith in let f = ap t.end same in omega arith) (lt_or_le i j)

module _ {Z E : ℕ → ℕ} {k s j r r' : ℕ} (turn : InTurn Z E k) where
  pub back_more : {t t' : ℕ} → 0 < j → j ≤ k → Reached Z E k s (From j k) r → Exactly t (Picked (From j k) (λ i. Meets r (E i)) Z)
      → Added (Meets r (E (j - 1))) r (Z (j - 1)) r' → Added (Meets r (E (j - 1))) t (Z (j - 1)) t'
      → Reached Z E k s (From (j - 1) k) r' × Exactly t' (Picked (From (j - 1) k) (λ i. Meets r' (E i)) Z)
  back_more p l c x d e =
      let n = next_down j k p l in
      let apart : (i q : ℕ) → From (j - 1) k i → Holds (Z (j - 1)) q → Holds (E i) q → ⊥ = λ i q h. in_turn_apart turn (j - 1) i q h.0 h.1 in
      (reached_more n (omega arith) apart c d, landed_more n apart x d e)

-- ---- what is picked in the end

pub all_landed : {A B : ℕ → ℕ} {j k s r : ℕ} → j ≡ 0 → Exactly r (Picked (From j k) (λ i. Meets s (B i)) A) → Exactly r (Lands A B k s)
all_landed e = exactly_as
    (λ q p. record { number = p.number; below = p.done.1; from = p.held; to = meets_turned p.on })
    (λ q p. record { number = p.number; done = (omega arith, p.below); on = meets_turned p.to; held = p.from })
  where
    meets_turned : {a b : ℕ} → Meets a b → Meets b a
    meets_turned m = record { shared = m.shared; first = m.second; second = m.first }

-- ---- rows given to

-- the first j rows are given t where s meets their S; from j on none is touched
pub record Giving (S : ℕ → ℕ) (s t : ℕ) (w₀ w : List Set) (j : ℕ) : Type 0 where
  pub long : length w ≡ length w₀
  pub done : (i : ℕ) → i < j → Added (Meets s (S i)) (row_in w₀ i) t (row_in w i)
  pub ahead : (i : ℕ) → j ≤ i → row_in w i ≡ row_in w₀ i

giving_more : {S : ℕ → ℕ} {s t : ℕ} {w₀ w w' : List Set} {j u : ℕ} → Giving S s t w₀ w j → PutRow w j u w' → Added (Meets s (S j)) (row_in w j) t u
    → Giving S s t w₀ w' (j + 1)
giving_more {S} {s} {t} {w₀} {j = j} {u = u} g p d = record {
  long = p.long ∙ g.long;
  done = rows_more (λ i x. Added (Meets s (S i)) (row_in w₀ i) t x) p g.done
      (subst (λ (x : ℕ). Added (Meets s (S j)) x t u) (g.ahead j (omega arith)) d);
  ahead = λ i h. p.kept i (λ e. omega arith) ∙ g.ahead i (omega arith);
}

-- a row is set, as a test says
pub giving_with : {S : ℕ → ℕ} {s t : ℕ} {w₀ w w' : List Set} {j v u : ℕ} (on : Bool) → Giving S s t w₀ w j → Tells on (Meets s (S j))
    → v ≡ row_in w j → (on ≡ true → u ≡ bit_or v t) → (on ≡ false → u ≡ v) → PutRow w j u w' → Giving S s t w₀ w' (j + 1)
giving_with {S} {s} {t} {w = w} {j = j} {u = u} on g tells e add keep p = giving_more g p (subst (λ (x : ℕ). Added (Meets s (S j)) x t u) e (added_with on tells refl add keep))

-- a row is set, or none is
pub giving_so : {S : ℕ → ℕ} {s t : ℕ} {w₀ w w' w'' : List Set} {j v u : ℕ} → Giving S s t w₀ w j → Meets s (S j)
    → v ≡ row_in w j → u ≡ bit_or v t → PutRow w j u w' → w'' ≡ w' → Giving S s t w₀ w'' (j + 1)
giving_so {S} {s} {t} {w₀} {j = j} g m e o p same = subst (λ (x : List Set). Giving S s t w₀ x (j + 1)) (sym same)
    (giving_more g p (added_so m refl (o ∙ ap (λ (x : ℕ). bit_or x t) e)))

pub giving_not : {S : ℕ → ℕ} {s t : ℕ} {w₀ w w'' : List Set} {j : ℕ} → Giving S s t w₀ w j → (Meets s (S j) → ⊥) → w'' ≡ w → Giving S s t w₀ w'' (j + 1)
giving_not {S} {s} {t} {w₀} {j = j} g n same = subst (λ (x : List Set). Giving S s t w₀ x (j + 1)) (sym same)
    (giving_more g (record { long = refl; here = refl; kept = λ i h. refl }) (added_not n refl))
