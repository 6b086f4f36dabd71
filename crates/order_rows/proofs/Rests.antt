-- Rows to the ends: from where some rest is on the right side. Assumes nothing.
use mathlib.Core.Path.{◌≡◌, subst}
use mathlib.Core.Logic.{◌⊎◌, inl, inr, ⊎_elim}
use Prim.Native.Nat.{ℕ, ◌+◌, ◌/◌, ◌<◌}
use lib.Bits.{bit_and, bit_or}
use Rattle.bases.specs.Base.{Holds, Empty, Meets}
use Rattle.bases.proofs.Laws.{none_in_zero}
use Rattle.sets.specs.Set.{Exactly}
use Rattle.sets.proofs.Exact.{both_exactly, either_exactly, down_exactly}
use Rattle.shapes.specs.Shape.{Block}
use Rattle.rows.specs.Steps.{Leads, there, step, Lands}
use Rattle.row_paths.specs.Rows.{Zones}
use Rattle.order_sides.specs.Guide.{Guide, Clear, Even}
use Rattle.order_rows.specs.Rows.{Right, Sorted, QuitsAt, Moves, PartsAt}
use Rattle.order_rows.proofs.Evens.{even_ended, even_taken}

-- from i some rest is on the right side, and not first by the end of a run
data Opens (X : ℕ → Block) (G : Guide) (U q i : ℕ) : Type 0 where
  over : ((i ≡ U) × (0 < G.ends q)) ⊎ Meets (X i).base (G.apart q) → Opens X G U q i
  same : Meets (X i).base (G.same q) → Clear X G U (i + 1) (q + 1) → Opens X G U q i

module _ {X : ℕ → Block} {G : Guide} {U : ℕ} where
  opens_clear : {i q : ℕ} → Opens X G U q i → Clear X G U i q
  opens_clear (over h) = ⊎_elim (λ e. Clear.end e.0 e.1) (λ m. Clear.apart m) h
  opens_clear (same m c) = Clear.same m c

  module _ {Z E : ℕ → ℕ} {k : ℕ} (z : Zones X Z E k) where
    leads_clear : {s i q : ℕ} → ((h : ℕ) → Holds s h → Opens X G U q h) → Leads Z E k s i → Clear X G U i q
    leads_clear f (there h) = opens_clear (f _ h)
    leads_clear {q = q} f (step {q = i} n l from to r) =
        Clear.skip (z.free n i l from) (subst (λ (x : ℕ). Clear X G U x q) (z.stop n i _ l from to) (leads_clear f r))

    clear_leads : {s i q : ℕ} → ((h : ℕ) → Even X G h q → Opens X G U q h → Holds s h) → Even X G i q → Clear X G U i q → Leads Z E k s i
    clear_leads {i = i} f p (Clear.end e n) = there (f i p (over (inl (e, n))))
    clear_leads {i = i} f p (Clear.skip l c) = let r = z.find i l in step r.0 r.1 r.2 r.3 (clear_leads f (even_ended p l) c)
    clear_leads {i = i} f p (Clear.apart m) = there (f i p (over (inr m)))
    clear_leads {i = i} f p (Clear.same m c) = there (f i p (same m c))

    -- one state: from the rests of the next
    module _ (c next apart leave q : ℕ) (rest : Right X G U (q + 1) c) (g : Sorted X G U q next apart leave) where
      module _ {d stay all : ℕ} (x : d ≡ c / 2) (y : stay ≡ bit_and d next) (w : all ≡ bit_or leave stay) where
        taken : Exactly stay (λ i. Holds d i × Holds next i)
        taken = both_exactly d next y

        lower : Exactly d (λ i. Holds c (i + 1))
        lower = down_exactly c x

        either : Exactly all (λ i. Holds leave i ⊎ Holds stay i)
        either = either_exactly leave stay w

        stay_so : (i : ℕ) → Holds stay i → Meets (X i).base (G.same q) × Clear X G U (i + 1) (q + 1)
        stay_so i h = let t = taken.so i h in (g.stays.so i t.1, rest.so (i + 1) (lower.so i t.0))

        stay_mark : (i : ℕ) → Even X G i q → Meets (X i).base (G.same q) → Clear X G U (i + 1) (q + 1) → Holds stay i
        stay_mark i p m k = taken.has i (lower.has i (rest.has (i + 1) (even_taken p m) k), g.stays.has i m)

        all_so : (i : ℕ) → Holds all i → Opens X G U q i
        all_so i h = ⊎_elim (λ l. over (g.leaves.so i l)) (λ s. let t = stay_so i s in same t.0 t.1) (either.so i h)

        all_mark : (i : ℕ) → Even X G i q → Opens X G U q i → Holds all i
        all_mark i p (over h) = either.has i (inl (g.leaves.has i h))
        all_mark i p (same m k) = either.has i (inr (stay_mark i p m k))

        pub moves_here : (row : ℕ) {n : ℕ} → Exactly row (λ i. Even X G i q) → n ≡ bit_and row stay → Exactly n (λ i. Moves X G U q i)
        moves_here row r e = record {
          so = λ i h. let b = (both_exactly row stay e).so i h in let t = stay_so i b.1 in record { reached = r.so i b.0; meets = t.0; on = t.1 };
          has = λ i m. (both_exactly row stay e).has i (r.has i m.reached, stay_mark i m.reached m.meets m.on);
        }

        module _ {r : ℕ} (l : Exactly r (Leads Z E k all)) where
          pub rests_here : Right X G U q r
          rests_here = record { so = λ i h. leads_clear all_so (l.so i h); has = λ i p h. l.has i (clear_leads all_mark p h) }

          pub quits_here : (row t : ℕ) {n : ℕ} → Exactly row (λ i. Even X G i q) → Exactly t (Lands Z E k r) → n ≡ bit_and row t → Exactly n (λ i. QuitsAt X G U q i)
          quits_here row t v o e = record {
            so = λ i h.
                let b = (both_exactly row t e).so i h in
                let n = o.so i b.1 in
                let m = n.to in
                record {
                  reached = v.so i b.0;
                  enough = z.free n.number i n.below n.from;
                  on = subst (λ (x : ℕ). Clear X G U x q) (z.stop n.number i m.shared n.below n.from m.first) (rests_here.so m.shared m.second);
                };
            has = λ i m.
                let f = z.find i m.enough in
                let held = rests_here.has (i + (X i).upper) (even_ended m.reached m.enough) m.on in
                (both_exactly row t e).has i (v.has i m.reached, o.has i (record { number = f.0; below = f.1; from = f.2; to = record { shared = i + (X i).upper; first = f.3; second = held } }));
          }

      pub parts_here : (row : ℕ) {n : ℕ} → Exactly row (λ i. Even X G i q) → n ≡ bit_and row apart → Exactly n (λ i. PartsAt X G q i)
      parts_here row r e = record {
        so = λ i h. let b = (both_exactly row apart e).so i h in record { reached = r.so i b.0; meets = g.parts.so i b.1 };
        has = λ i m. (both_exactly row apart e).has i (r.has i m.reached, g.parts.has i m.meets);
      }

  -- past all states there is none
  pub rests_none : {q c : ℕ} → c ≡ 0 → ((i : ℕ) → Even X G i q → ⊥) → Right X G U q c
  unfolding Empty
  rests_none {q} {c} e f = record { so = λ i h. absurd (none_in_zero i (subst (λ (x : ℕ). Holds x i) e h)); has = λ i p h. absurd (f i p) }
