-- The positions of one block weighed one by one: the least character so far, and what may be dropped. Assumes nothing.
use mathlib.Core.Path.{◌≡◌, refl, sym, subst}
use mathlib.Core.List.{List}
use mathlib.Core.Logic.{◌⊎◌, inl, inr, ⊎_elim}
use Prim.Native.Nat.{ℕ, ◌+◌, ◌/◌, ◌≤◌, ◌<◌}
use native.Mathlib.Omega.{arith}
use lib.Bits.{bit_and, bit_or}
use Rattle.bases.specs.Base.{Holds, Empty, Meets}
use Rattle.plain.proofs.Plain.{eq_or_ne}
use Rattle.sets.specs.Set.{set_of, Exactly}
use Rattle.sets.specs.declared.Set.{Set}
use Rattle.sets.proofs.Exact.{exactly_as, exactly_at, both_exactly, either_exactly, down_exactly, held_or_not}
use Rattle.shapes.specs.Shape.{Block}
use Rattle.shapes.specs.Lent.{shape_of}
use Rattle.walks.specs.Walk.{Path, slot_at}
use Rattle.rows.specs.Row.{row_in}
use Rattle.common_weighs.specs.declared.Weighed.{Weighed}
use Rattle.common_weighs.specs.Next.{BothTake, MayCome, LeastOf, some, none}
use Rattle.common_weighs.specs.Code.{SharedAt, Sooner, Weighing, WeighingAt, WeighedBy, bare, WeighedAll}

module _ {X Y : ℕ → Block} {U W Q : ℕ} where
  -- ---- the same characters may come

  pub may_as : {D D' : ℕ → Type 0} {c : ℕ} → ((i : ℕ) → D i → D' i) → MayCome X Y U W D Q c → MayCome X Y U W D' Q c
  may_as f m = record { own = m.own; other = m.other; has = f m.own m.has; held = m.held; goes = m.goes }

  -- ---- more positions, none of which brings a character that comes sooner

  pub least_more : {D D' : ℕ → Type 0} {code : ℕ} → ((i : ℕ) → D i → D' i) → ((c : ℕ) → MayCome X Y U W D' Q c → MayCome X Y U W D Q c ⊎ ((code ≤ c) × (code < 256)))
      → LeastOf (MayCome X Y U W D Q) code → LeastOf (MayCome X Y U W D' Q) code
  least_more f g (some l a h) = some l (may_as f a) (λ c m. ⊎_elim (λ w. h c w) (λ w. w.0) (g c m))
  least_more f g (none e h) = none e (λ c m. ⊎_elim (λ w. h c w) (λ w. let l = w.1 in omega arith) (g c m))

  -- and some of which one brings r, where that is sooner
  pub least_sooner : {D D' : ℕ → Type 0} {code r : ℕ} → ((i : ℕ) → D i → D' i) → r ≤ code → (r ≡ code) ⊎ ((r < 256) × MayCome X Y U W D' Q r)
      → ((c : ℕ) → MayCome X Y U W D' Q c → MayCome X Y U W D Q c ⊎ ((r ≤ c) × (r < 256))) → LeastOf (MayCome X Y U W D Q) code → LeastOf (MayCome X Y U W D' Q) r
  least_sooner {D} {D'} {code} {r} f le s g l = ⊎_elim same sooner s
    where
      same : r ≡ code → LeastOf (MayCome X Y U W D' Q) r
      same e = least_more f g (subst (LeastOf (MayCome X Y U W D Q)) (sym e) l)

      before : LeastOf (MayCome X Y U W D Q) code → (c : ℕ) → MayCome X Y U W D Q c → r ≤ c
      before (some b a h) c m = let v = h c m in omega arith
      before (none e h) c m = absurd (h c m)

      sooner : (r < 256) × MayCome X Y U W D' Q r → LeastOf (MayCome X Y U W D' Q) r
      sooner w = some w.0 w.1 (λ c m. ⊎_elim (λ v. before l c v) (λ v. v.0) (g c m))

-- ---- the positions of a block

-- beside which positions both can take a character at i
live_beside : {X Y : ℕ → Block} {U W : ℕ} (i row beside base Q : ℕ) {d here : ℕ} → Exactly row (λ j. Path X Y U W (i + 1) j) → Exactly beside (λ j. Holds Q j × Meets base (Y j).base)
    → d ≡ row / 2 → here ≡ bit_and d beside → Exactly here (λ j. Holds Q j × Meets base (Y j).base × Path X Y U W (i + 1) (j + 1))
live_beside i row beside base Q {d} x y e g = exactly_as
    (λ j h. let o = y.so j h.1 in (o.0, o.1, x.so (j + 1) ((down_exactly row e).so j h.0)))
    (λ j h. ((down_exactly row e).has j (x.has (j + 1) h.2), y.has j (h.0, h.1)))
    (both_exactly d beside g)

module _ {X Y : ℕ → Block} {U W P Q base E left code kept seen : ℕ} (w : Weighing X Y U W P Q base E left code kept seen) where
  -- none is left that can bring one that comes sooner
  pub settle : ((i j c : ℕ) → Holds left i → Holds Q j → BothTake X Y U W i j c → (code ≤ c) × (code < 256)) → LeastOf (MayCome X Y U W (λ i. Holds P i × (i < E)) Q) code
  settle f = least_more (λ i d. (d.0, d.1)) more w.least
    where
      more : (c : ℕ) → MayCome X Y U W (λ i. Holds P i × (i < E)) Q c → MayCome X Y U W (λ i. Holds P i × (i < E) × (Holds left i → ⊥)) Q c ⊎ ((code ≤ c) × (code < 256))
      more c m = ⊎_elim
          (λ h. inr (f m.own m.other c h m.held m.goes))
          (λ n. inl (record { own = m.own; other = m.other; has = (m.has.0, m.has.1, n); held = m.held; goes = m.goes }))
          (held_or_not left m.own)

  -- one position more
  module _ (i : ℕ) (at : Holds left i) {left' : ℕ} (less : Exactly left' (λ e. Holds left e × (e ≡ i → ⊥))) where
    abbrev D : ℕ → Type 0
    D e = Holds P e × (e < E) × (Holds left e → ⊥)

    abbrev D' : ℕ → Type 0
    D' e = Holds P e × (e < E) × (Holds left' e → ⊥)

    wider : (e : ℕ) → D e → D' e
    wider e d = (d.0, d.1, λ h. d.2 (less.so e h).0)

    this : D' i
    this = ((w.inside i at).0, (w.inside i at).1, λ h. (less.so i h).1 refl)

    -- a character that may come now could before, or it comes at i
    split : {c : ℕ} → MayCome X Y U W D' Q c → MayCome X Y U W D Q c ⊎ ((j : ℕ) × Holds Q j × BothTake X Y U W i j c)
    split {c} m = ⊎_elim
        (λ e. inr (m.other, m.held, subst (λ (h : ℕ). BothTake X Y U W h m.other c) e m.goes))
        (λ n. inl (record { own = m.own; other = m.other; has = (m.has.0, m.has.1, λ h. m.has.2 (less.has m.own (h, n))); held = m.held; goes = m.goes }))
        (eq_or_ne m.own i)

    rest_inside : (e : ℕ) → Holds left' e → Holds P e × (e < E) × ((X e).base ≡ base)
    rest_inside e h = w.inside e (less.so e h).0

    own_base : (c : ℕ) → Holds (X i).base c → Holds base c
    own_base c h = subst (λ (b : ℕ). Holds b c) (w.inside i at).2 h

    module _ {here : ℕ} (beside : Exactly here (λ j. Holds Q j × Meets base (Y j).base × Path X Y U W (i + 1) (j + 1))) where
      is_beside : {j c : ℕ} → Holds Q j → BothTake X Y U W i j c → Holds here j
      is_beside {j} {c} h g = beside.has j (h, record { shared = c; first = own_base c g.first; second = g.second }, g.on)

      -- there both can take none: it is dropped
      weighed_bare : {kept' : ℕ} → Empty here → Exactly kept' (λ e. Holds kept e × (e ≡ i → ⊥)) → Weighing X Y U W P Q base E left' code kept' seen
      unfolding Empty
      weighed_bare {kept'} n x = record {
        least = least_more wider (λ c m. ⊎_elim (λ v. inl v) (λ v. absurd (n v.0 (is_beside v.1 v.2))) (split m)) w.least;
        kept_all = record {
          so = λ e h. w.kept_all.so e (x.so e h).0;
          live = λ e j c p q g. x.has e (w.kept_all.live e j c p q g, λ s. n j (is_beside q (subst (λ (h : ℕ). BothTake X Y U W h j c) s g)));
        };
        seen_all = w.seen_all;
        inside = rest_inside;
      }

      -- there both can take some: the least of those not seen yet
      weighed_some : {fresh r seen' : ℕ} → Exactly fresh (λ e. Holds here e × (Holds seen e → ⊥)) → Sooner Y base fresh code r → seen' ≡ bit_or seen here → Weighing X Y U W P Q base E left' r kept seen'
      weighed_some {fresh} {r} {seen'} x s e = record {
        least = least_sooner wider s.no_later
            (⊎_elim (λ v. inl v) (λ v. inr (v.0, brings v.1)) s.so)
            (λ c m. ⊎_elim (λ v. inl v) (λ v. inr (bound c v.0 (is_beside v.1 v.2) (own_base c v.2.first) v.2.second)) (split m)) w.least;
        kept_all = w.kept_all;
        seen_all = λ c v. ⊎_elim
            (λ h. bound_seen c v.other h v.first v.second)
            (λ h. bound c v.other h v.first v.second)
            ((either_exactly seen here e).so v.other v.held);
        inside = rest_inside;
      }
        where
          bound_seen : (c j : ℕ) → Holds seen j → Holds base c → Holds (Y j).base c → (r ≤ c) × (r < 256)
          bound_seen c j h f g = let v = w.seen_all c (record { other = j; held = h; first = f; second = g }) in let a = v.0 in let b = v.1 in let l = s.no_later in (omega arith, omega arith)

          bound : (c j : ℕ) → Holds here j → Holds base c → Holds (Y j).base c → (r ≤ c) × (r < 256)
          bound c j h f g = ⊎_elim
              (λ y. bound_seen c j y f g)
              (λ n. s.least c (record { other = j; held = x.has j (h, n); first = f; second = g }))
              (held_or_not seen j)

          brings : SharedAt Y base fresh r → MayCome X Y U W D' Q r
          brings v =
              let h = beside.so v.other (x.so v.other v.held).0 in
              record { own = i; other = v.other; has = this; held = h.0; goes = record { first = subst (λ (b : ℕ). Holds b r) (sym (w.inside i at).2) v.first; second = v.second; on = h.2 } }

-- what `weigh` answers
pub weighed : {X Y : ℕ → Block} {U W P Q base E left : ℕ} (g r : Weighed) → WeighingAt X Y U W P Q base E left g → (i : ℕ) → Holds left i
    → {left' : ℕ} → Exactly left' (λ e. Holds left e × (e ≡ i → ⊥)) → {here : ℕ} → Exactly here (λ j. Holds Q j × Meets base (Y j).base × Path X Y U W (i + 1) (j + 1))
    → WeighedBy Y base here i g r → WeighingAt X Y U W P Q base E left' r
weighed {X} {Y} {U} {W} {P} {Q} {base} {E} g r w i at {left'} less b (bare n e s k) =
    subst (λ (c : ℕ). Weighing X Y U W P Q base E left' c (set_of r.found.kept) (set_of r.seen)) (sym e)
    (subst (λ (v : ℕ). Weighing X Y U W P Q base E left' g.found.code (set_of r.found.kept) v) (sym s) (weighed_bare w i at less b n k))
weighed {X} {Y} {U} {W} {P} {Q} {base} {E} g r w i at {left'} less b (WeighedBy.some fresh x s v k) =
    subst (λ (c : ℕ). Weighing X Y U W P Q base E left' r.found.code c (set_of r.seen)) (sym k) (weighed_some w i at less b x s v)

-- ---- one after the other

-- From `members` on those of `left` are left, for each X that has the base there, and whatever leads to P and Q:
-- `beside` has those of Q whose base meets it.
pub record WeighedTo (y : List ℕ) (rows : List Set) (base beside members : ℕ) (begun : Weighed) (left : ℕ) (g : Weighed) : Type 0 where
  pub inside : (i : ℕ) → Holds left i → Holds members i
  pub holds : (X : ℕ → Block) (U W P Q E : ℕ) → Exactly beside (λ j. Holds Q j × Meets base (slot_at (shape_of y) j).base)
      → ((i : ℕ) → Holds members i → Exactly (row_in rows (i + 1)) (λ j. Path X (slot_at (shape_of y)) U W (i + 1) j))
      → WeighingAt X (slot_at (shape_of y)) U W P Q base E members begun → WeighingAt X (slot_at (shape_of y)) U W P Q base E left g

module _ {y : List ℕ} {rows : List Set} {base beside : ℕ} where
  pub weighed_none : {left : ℕ} (g : Weighed) → WeighedTo y rows base beside left g left g
  weighed_none g = record { inside = λ i h. h; holds = λ X U W P Q E b t w. w }

  pub weighed_more : {left₀ left left' row d here : ℕ} (g₀ g r : Weighed) (i : ℕ) → WeighedTo y rows base beside left₀ g₀ left g → Holds left i → Exactly left' (λ e. Holds left e × (e ≡ i → ⊥))
      → row ≡ row_in rows (i + 1) → d ≡ row / 2 → here ≡ bit_and d beside → WeighedBy (slot_at (shape_of y)) base here i g r → WeighedTo y rows base beside left₀ g₀ left' r
  weighed_more {left₀} {row = row} {d} {here} g₀ g r i v at less re de he by = record {
    inside = λ e h. v.inside e (less.so e h).0;
    holds = λ X U W P Q E b t w.
        weighed g r (v.holds X U W P Q E b t w) i at less
        (live_beside i row beside base Q (exactly_at re (t i (v.inside i at))) b de he) by;
  }

  pub weighed_all : {least left₀ left : ℕ} (g₀ g : Weighed) → WeighedTo y rows base beside left₀ g₀ left g → Empty left ⊎ (g.found.code ≤ least) → WeighedAll y rows base least beside left₀ g₀ g
  weighed_all {left = left} g₀ g v s = record { holds = λ X U W P Q E b t w. record { left = left; weighing = v.holds X U W P Q E b t w; enough = s } }
