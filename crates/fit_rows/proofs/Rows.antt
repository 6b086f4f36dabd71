-- The laws of rows of places: steps over held characters, what one block adds, and the row of no blocks. Assumes
-- nothing.
use mathlib.Core.Path.{◌≡◌, sym, ap, ◌∙◌, subst}
use mathlib.Core.List.{List, [], ◌∷◌}
use mathlib.Core.Logic.{◌⊎◌, inl, inr, ⊎_elim}
use Prim.Native.Nat.{ℕ, ◌+◌, ◌-◌, ◌≤◌, ◌<◌}
use native.Mathlib.Omega.{arith}
use lib.Bits.{bit_or}
use lib.ListN.{length, get_or, take, drop, length-drop, length-take, drop_of_length-le}
use lib.Seq.{get_or-drop, get_or-take, drop-drop}
use Rattle.bases.specs.Base.{Holds}
use Rattle.plain.proofs.Plain.{lt_or_le}
use Rattle.sets.specs.Set.{Exactly}
use Rattle.sets.proofs.Exact.{exactly_as, either_exactly}
use Rattle.shapes.specs.Shape.{Block, Fits}
use Rattle.plain.proofs.All.{all_at, all_of}
use Rattle.shapes.proofs.Fits.{fits_none, none_fits, taken_of_fits, fits_of_taken}
use Rattle.fit_rows.specs.Rows.{HeldAt, Steps, StepsUpTo, Row}

-- ---- steps over held places

module _ (held s : ℕ) where
  pub steps_none : Exactly s (Steps held s 0)
  steps_none = record {
    so = λ p h. record { there = subst (Holds s) (let z : p ≡ p + 0 = omega arith in z) h; each = λ j l. absurd (omega arith) };
    has = λ p h. subst (Holds s) (let z : p + 0 ≡ p = omega arith in z) h.there;
  }

  -- one step, then k
  pub steps_more : {d n : ℕ} (k : ℕ) → Exactly d (Steps held s k) → Exactly n (λ p. Holds held p × Holds d (p + 1))
      → Exactly n (Steps held s (k + 1))
  steps_more k x = exactly_as (λ p h. longer p h.0 (x.so (p + 1) h.1)) (λ p h. (first p h, x.has (p + 1) (shorter p h)))
    where
      longer : (p : ℕ) → Holds held p → Steps held s k (p + 1) → Steps held s (k + 1) p
      longer p h r = record {
        there = subst (Holds s) (let z : p + 1 + k ≡ p + (k + 1) = omega arith in z) r.there;
        each = λ j l. ⊎_elim
            (λ c. subst (Holds held) (let z : p ≡ p + j = omega arith in z) h)
            (λ c. subst (Holds held) (let z : p + 1 + (j - 1) ≡ p + j = omega arith in z) (r.each (j - 1) (omega arith)))
            (lt_or_le j 1);
      }

      first : (p : ℕ) → Steps held s (k + 1) p → Holds held p
      first p r = subst (Holds held) (let z : p + 0 ≡ p = omega arith in z) (r.each 0 (omega arith))

      shorter : (p : ℕ) → Steps held s (k + 1) p → Steps held s k (p + 1)
      shorter p r = record {
        there = subst (Holds s) (let z : p + (k + 1) ≡ p + 1 + k = omega arith in z) r.there;
        each = λ j l. subst (Holds held) (let z : p + (j + 1) ≡ p + 1 + j = omega arith in z) (r.each (j + 1) (omega arith));
      }

  pub up_to_none : Exactly s (StepsUpTo held s 0)
  up_to_none = exactly_as
      (λ p h. record { count = 0; within = omega arith; steps = h })
      (λ p h. let w = h.within in let z : h.count ≡ 0 = omega arith in subst (λ (k : ℕ). Steps held s k p) z h.steps)
      steps_none

  -- the places of k + 1 steps are added to those of at most k
  pub up_to_more : {d r n : ℕ} (k : ℕ) → Exactly r (StepsUpTo held s k) → Exactly d (Steps held s (k + 1)) → n ≡ bit_or r d
      → Exactly n (StepsUpTo held s (k + 1))
  up_to_more {d} {r} k x y e = exactly_as so has (either_exactly r d e)
    where
      so : (p : ℕ) → Holds r p ⊎ Holds d p → StepsUpTo held s (k + 1) p
      so p = ⊎_elim
          (λ h. let u = x.so p h in record { count = u.count; within = let w = u.within in omega arith; steps = u.steps })
          (λ h. record { count = k + 1; within = omega arith; steps = y.so p h })

      has : (p : ℕ) → StepsUpTo held s (k + 1) p → Holds r p ⊎ Holds d p
      has p u =
          let w = u.within in
          ⊎_elim
          (λ c. inl (x.has p (record { count = u.count; within = omega arith; steps = u.steps })))
          (λ c. let z : u.count ≡ k + 1 = omega arith in inr (y.has p (subst (λ (k : ℕ). Steps held s k p) z u.steps)))
          (lt_or_le u.count (k + 1))

-- ---- what one block adds

-- l steps, then k, are l + k, and the other way round
module _ (held s mid l : ℕ) (x : Exactly mid (Steps held s l)) (p k : ℕ) where
  joined : Steps held mid k p → Steps held s (l + k) p
  joined r =
      let q = x.so (p + k) r.there in
      record {
        there = subst (Holds s) (let z : p + k + l ≡ p + (l + k) = omega arith in z) q.there;
        each = λ j c. ⊎_elim
            (λ d. r.each j d)
            (λ d. subst (Holds held) (let z : p + k + (j - k) ≡ p + j = omega arith in z) (q.each (j - k) (omega arith)))
            (lt_or_le j k);
      }

  parted : Steps held s (l + k) p → Steps held mid k p
  parted r = record {
    there = x.has (p + k) (record {
      there = subst (Holds s) (let z : p + (l + k) ≡ p + k + l = omega arith in z) r.there;
      each = λ j c. subst (Holds held) (let z : p + (k + j) ≡ p + k + j = omega arith in z) (r.each (k + j) (omega arith));
    });
    each = λ j c. r.each j (omega arith);
  }

module _ (b : Block) (s : List Block) (t : List ℕ) (held after : ℕ) (h : HeldAt b.base t held) (w : Row s t after) (p : ℕ) where
  fits_of_steps : (k : ℕ) → b.lower ≤ k → k ≤ b.upper → Steps held after k p → (p ≤ length t) × Fits (b ∷ s) (drop p t)
  fits_of_steps k enough bounded r =
      let there = w.so (p + k) r.there in
      let short = there.0 in
      let long = length-drop p t in
      let taken : (j : ℕ) → j < length (take k (drop p t)) → Holds b.base (get_or (take k (drop p t)) j 0)
      = λ j c. let cut = length-take k (drop p t) in
      let small : j < k = omega arith in
      subst (Holds b.base) (sym (get_or-take k (drop p t) j 0 small ∙ get_or-drop p t j 0)) (h.so (p + j) (r.each j small)).1 in (
        omega arith,
        fits_of_taken (drop p t) (record {
          count = k;
          within = omega arith;
          enough = enough;
          bounded = bounded;
          held = all_of _ 0 taken;
          rest = subst (Fits s) (sym (drop-drop k p t)) there.1;
        }),
      )

  steps_of_fits : p ≤ length t → Fits (b ∷ s) (drop p t) → (k : ℕ) × (b.lower ≤ k) × (k ≤ b.upper) × (p + k ≤ length t) × Steps held after k p
  steps_of_fits l f =
      let g = taken_of_fits f in
      let k = g.count in
      let within = g.within in
      let long = length-drop p t in
      let short : p + k ≤ length t = omega arith in
      let there = w.has (p + k) (short, subst (Fits s) (drop-drop k p t) g.rest) in
      let taken : (j : ℕ) → j < k → Holds b.base (get_or t (p + j) 0)
      = λ j c. let cut = length-take k (drop p t) in
      subst (Holds b.base) (get_or-take k (drop p t) j 0 c ∙ get_or-drop p t j 0) (all_at 0 g.held j (omega arith)) in
      (k, g.enough, g.bounded, short, record { there = there; each = λ j c. h.has (p + j) (omega arith, taken j c) })

-- `most` steps more than the lower are as good as upper - lower: the text is no longer
pub row_next : (b : Block) (s : List Block) (t : List ℕ) (held after mid most row : ℕ)
    → b.lower ≤ b.upper → most ≤ b.upper - b.lower → ((k : ℕ) → k ≤ b.upper - b.lower → k ≤ length t → k ≤ most)
    → HeldAt b.base t held → Exactly mid (Steps held after b.lower) → Exactly row (StepsUpTo held mid most)
    → Row s t after → Row (b ∷ s) t row
row_next b s t held after mid most row ordered few enough h x y w = exactly_as so has y
  where
    so : (p : ℕ) → StepsUpTo held mid most p → (p ≤ length t) × Fits (b ∷ s) (drop p t)
    so p u =
        let c = u.within in
        fits_of_steps b s t held after h w p (b.lower + u.count) (omega arith) (omega arith) (joined held after mid b.lower x p u.count u.steps)

    has : (p : ℕ) → (p ≤ length t) × Fits (b ∷ s) (drop p t) → StepsUpTo held mid most p
    has p f =
        let g = steps_of_fits b s t held after h w p f.0 f.1 in
        let k : ℕ = g.0 - b.lower in
        let low = g.1 in
        let high = g.2 in
        let short = g.3 in
        let whole : g.0 ≡ b.lower + k = omega arith in
        record {
          count = k;
          within = enough k (omega arith) (omega arith);
          steps = parted held after mid b.lower x p k (subst (λ (n : ℕ). Steps held after n p) whole g.4);
        }

-- the row of no blocks: the end of the text alone
pub row_last : (t : List ℕ) {row : ℕ} → Exactly row (λ p. p ≡ length t) → Row [] t row
row_last t = exactly_as
    (λ p e. (omega arith, subst (Fits []) (sym (drop_of_length-le t (let z : length t ≤ p = omega arith in z))) fits_none))
    (λ p f. let none : length (drop p t) ≡ 0 = ap length (none_fits f.1) in let cut = length-drop p t in let l = f.0 in omega arith)
