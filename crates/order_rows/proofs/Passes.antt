-- The positions of some states, gathered state by state and joined, and the characters that they bring. Assumes
-- nothing.
use mathlib.Core.Path.{◌≡◌, sym, subst}
use mathlib.Core.Logic.{◌⊎◌, inl, inr, ⊎_elim}
use Prim.Native.Nat.{ℕ, ◌+◌, ◌/◌, ◌≤◌, ◌<◌}
use native.Mathlib.Omega.{arith}
use lib.Bits.{bit_and, bit_or}
use Rattle.bases.specs.Base.{Holds, Empty, Meets}
use Rattle.bases.proofs.Laws.{none_in_zero}
use Rattle.plain.proofs.Plain.{lt_or_le}
use Rattle.sets.specs.Set.{Exactly}
use Rattle.sets.proofs.Exact.{exactly_as, none_exactly, either_exactly}
use Rattle.shapes.specs.Shape.{Block}
use Rattle.rows.specs.Steps.{Leads, Lands, Given}
use Rattle.row_paths.specs.Rows.{Zones}
use Rattle.order_sides.specs.Guide.{Guide, Even}
use Rattle.order_rows.specs.Rows.{Right, Sorted, QuitsAt, Moves, PartsAt, During, PassAlong, Brings, Brought}
use Rattle.order_rows.proofs.Rests.{rests_here, quits_here, moves_here, parts_here}

-- ---- some states

module _ (P : ℕ → ℕ → Type 0) where
  during_none : {lo n : ℕ} → n ≡ 0 → Exactly n (λ i. During lo lo (λ q. P q i))
  during_none e = none_exactly e (λ i d. let f = d.from in let b = d.before in omega arith)

  pub during_one : {n : ℕ} (q : ℕ) → Exactly n (P q) → Exactly n (λ i. During q (q + 1) (λ s. P s i))
  during_one q x = exactly_as
      (λ i h. record { state = q; from = omega arith; before = omega arith; has = h })
      (λ i d. let f = d.from in let b = d.before in subst (λ (s : ℕ). P s i) (let z : d.state ≡ q = omega arith in z) d.has) x

  during_join : (a b lo mid hi : ℕ) {n : ℕ} → lo ≤ mid → mid ≤ hi → Exactly a (λ i. During mid hi (λ q. P q i)) → Exactly b (λ i. During lo mid (λ q. P q i))
      → n ≡ bit_or a b → Exactly n (λ i. During lo hi (λ q. P q i))
  during_join a b lo mid hi l h x y e = exactly_as to from (either_exactly a b e)
    where
      to : (i : ℕ) → Holds a i ⊎ Holds b i → During lo hi (λ q. P q i)
      to i s = ⊎_elim
          (λ k. let d = x.so i k in let f = d.from in record { state = d.state; from = omega arith; before = d.before; has = d.has })
          (λ k. let d = y.so i k in let f = d.before in record { state = d.state; from = d.from; before = omega arith; has = d.has })
          s

      from : (i : ℕ) → During lo hi (λ q. P q i) → Holds a i ⊎ Holds b i
      from i d = ⊎_elim
          (λ k. inr (y.has i (record { state = d.state; from = d.from; before = k; has = d.has })))
          (λ k. inl (x.has i (record { state = d.state; from = k; before = d.before; has = d.has })))
          (lt_or_le d.state mid)

module _ {X : ℕ → Block} {G : Guide} {U : ℕ} where
  pub pass_none : {lo c a m p : ℕ} → Right X G U lo c → a ≡ 0 → m ≡ 0 → p ≡ 0 → PassAlong X G U lo lo c a m p
  pass_none r a m p = record {
    rests = r;
    quits = during_none (λ q. QuitsAt X G U q) a;
    moves = during_none (λ q. Moves X G U q) m;
    parts = during_none (λ q. PartsAt X G q) p;
  }

  -- one state
  pub pass_one : {c a m p : ℕ} (q : ℕ) → Right X G U q c → Exactly a (QuitsAt X G U q) → Exactly m (Moves X G U q) → Exactly p (PartsAt X G q) → PassAlong X G U q (q + 1) c a m p
  pass_one q r a m p = record {
    rests = r;
    quits = during_one (λ q. QuitsAt X G U q) q a;
    moves = during_one (λ q. Moves X G U q) q m;
    parts = during_one (λ q. PartsAt X G q) q p;
  }

  -- one state, as the code computes it
  pub pass_state : {Z E : ℕ → ℕ} {k : ℕ} (c next apart leave row q : ℕ) {d stay all r t quit moved parted : ℕ} → Zones X Z E k → Sorted X G U q next apart leave
      → Exactly row (λ i. Even X G i q) → Right X G U (q + 1) c → d ≡ c / 2 → stay ≡ bit_and d next → all ≡ bit_or leave stay → Exactly r (Leads Z E k all)
      → Exactly t (Lands Z E k r) → quit ≡ bit_and row t → moved ≡ bit_and row stay → parted ≡ bit_and row apart → PassAlong X G U q (q + 1) r quit moved parted
  pass_state c next apart leave row q {t = t} z g v o x y w l n a m p = pass_one q
      (rests_here z c next apart leave q o g x y w l)
      (quits_here z c next apart leave q o g x y w l row t v n a)
      (moves_here z c next apart leave q o g x y w row v m)
      (parts_here z c next apart leave q o g row v p)

  -- earlier states before later ones
  pub pass_join : {c₁ c₂ : ℕ} (a₁ m₁ p₁ a₂ m₂ p₂ : ℕ) {a m p lo mid hi : ℕ} → lo ≤ mid → mid ≤ hi → PassAlong X G U mid hi c₁ a₁ m₁ p₁ → PassAlong X G U lo mid c₂ a₂ m₂ p₂
      → a ≡ bit_or a₁ a₂ → m ≡ bit_or m₁ m₂ → p ≡ bit_or p₁ p₂ → PassAlong X G U lo hi c₂ a m p
  pass_join a₁ m₁ p₁ a₂ m₂ p₂ {lo = lo} {mid = mid} {hi = hi} l h x y e f g = record {
    rests = y.rests;
    quits = during_join (λ q. QuitsAt X G U q) a₁ a₂ lo mid hi l h x.quits y.quits e;
    moves = during_join (λ q. Moves X G U q) m₁ m₂ lo mid hi l h x.moves y.moves f;
    parts = during_join (λ q. PartsAt X G q) p₁ p₂ lo mid hi l h x.parts y.parts g;
  }

  -- a guide that says the same at two states
  pub sorted_as : {q s a b o : ℕ} → G.same q ≡ G.same s → G.apart q ≡ G.apart s → G.ends q ≡ G.ends s → Sorted X G U s a b o → Sorted X G U q a b o
  sorted_as {q} {s} e f g x = record {
    stays = exactly_as (λ i m. subst (Meets (X i).base) (sym e) m) (λ i m. subst (Meets (X i).base) e m) x.stays;
    parts = exactly_as (λ i m. subst (Meets (X i).base) (sym f) m) (λ i m. subst (Meets (X i).base) f m) x.parts;
    leaves = exactly_as to from x.leaves;
  }
    where
      to : (i : ℕ) → ((i ≡ U) × (0 < G.ends s)) ⊎ Meets (X i).base (G.apart s) → ((i ≡ U) × (0 < G.ends q)) ⊎ Meets (X i).base (G.apart q)
      to i h = ⊎_elim (λ k. inl (k.0, subst (λ (n : ℕ). 0 < n) (sym g) k.1)) (λ m. inr (subst (Meets (X i).base) (sym f) m)) h

      from : (i : ℕ) → ((i ≡ U) × (0 < G.ends q)) ⊎ Meets (X i).base (G.apart q) → ((i ≡ U) × (0 < G.ends s)) ⊎ Meets (X i).base (G.apart s)
      from i h = ⊎_elim (λ k. inl (k.0, subst (λ (n : ℕ). 0 < n) g k.1)) (λ m. inr (subst (Meets (X i).base) f m)) h

  -- ---- characters

  module _ {S : ℕ → ℕ} {k : ℕ} where
    pub brought_none : {hi : ℕ} {A : ℕ → ℕ} → ((j : ℕ) → j < k → A j ≡ 0) → Brought X G U S k hi hi A
    unfolding Empty
    brought_none {hi} f = record { so = λ j c l h. absurd (none_in_zero c (subst (λ (n : ℕ). Holds n c) (f j l) h)); has = λ j c l b. absurd (none b) }
      where
        none : {slot c : ℕ} → Brings X G U slot hi hi c → ⊥
        none (Brings.stays q i l h s m g) = omega arith
        none (Brings.parts q i l h s m g) = omega arith

    -- the characters of some earlier states that say the same
    pub brought_more : {A B D : ℕ → ℕ} {lo mid hi m t p u : ℕ} → lo ≤ mid → mid ≤ hi → Brought X G U S k mid hi A
        → Exactly m (λ i. During lo mid (λ q. Moves X G U q i)) → Exactly p (λ i. During lo mid (λ q. PartsAt X G q i))
        → ((q : ℕ) → lo ≤ q → q < mid → G.same q ≡ t) → ((q : ℕ) → lo ≤ q → q < mid → G.apart q ≡ u)
        → Given S k m t A B → Given S k p u B D → Brought X G U S k lo hi D
    brought_more {A} {B} {D} {lo} {mid} {hi} {m} {t} {p} {u} l h x y z same apart g f = record {
      so = λ j c w b. ⊎_elim (λ b. ⊎_elim (λ a. wider (x.so j c w a)) (λ n. stay j c n.0 n.1) (g.so j c w b)) (λ n. part j c n.0 n.1) (f.so j c w b);
      has = has;
    }
      where
        wider : {slot c : ℕ} → Brings X G U slot mid hi c → Brings X G U slot lo hi c
        wider (Brings.stays q i a b s v e) = Brings.stays q i (omega arith) b s v e
        wider (Brings.parts q i a b s v e) = Brings.parts q i (omega arith) b s v e

        stay : (j c : ℕ) → Meets m (S j) → Holds t c → Brings X G U (S j) lo hi c
        stay j c n e =
            let d = y.so n.shared n.first in
            let b = d.before in
            Brings.stays d.state n.shared d.from (omega arith) n.second d.has (subst (λ (a : ℕ). Holds a c) (sym (same d.state d.from b)) e)

        part : (j c : ℕ) → Meets p (S j) → Holds u c → Brings X G U (S j) lo hi c
        part j c n e =
            let d = z.so n.shared n.first in
            let b = d.before in
            Brings.parts d.state n.shared d.from (omega arith) n.second d.has (subst (λ (a : ℕ). Holds a c) (sym (apart d.state d.from b)) e)

        has : (j c : ℕ) → j < k → Brings X G U (S j) lo hi c → Holds (D j) c
        has j c w (Brings.stays q i a b s v e) = f.kept j c w (⊎_elim
            (λ n. g.more j c w (record { shared = i; first = y.has i (record { state = q; from = a; before = n; has = v }); second = s }) (subst (λ (x : ℕ). Holds x c) (same q a n) e))
            (λ n. g.kept j c w (x.has j c w (Brings.stays q i n b s v e)))
            (lt_or_le q mid))
        has j c w (Brings.parts q i a b s v e) = ⊎_elim
            (λ n. f.more j c w (record { shared = i; first = z.has i (record { state = q; from = a; before = n; has = v }); second = s }) (subst (λ (x : ℕ). Holds x c) (apart q a n) e))
            (λ n. f.kept j c w (g.kept j c w (x.has j c w (Brings.parts q i n b s v e))))
            (lt_or_le q mid)
