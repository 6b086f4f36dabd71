-- One shape read alone over padding: readings joined, and cut at an edge that no run crosses; what a block on the way
-- allows; the shape's end. Assumes nothing.
use mathlib.Core.Path.{◌≡◌, refl, sym, ap, ◌∙◌, subst}
use mathlib.Core.Bool.{Bool}
use mathlib.Core.Logic.{◌⊎◌, inl, inr, ⊎_elim}
use Prim.Native.Nat.{ℕ, zero, suc, ◌+◌, ◌-◌, ◌≤◌, ◌<◌}
use native.Mathlib.Omega.{arith}
use Rattle.bases.specs.Base.{Holds, Empty, Meets}
use Rattle.plain.specs.Tells.{Tells}
use Rattle.bases.proofs.Laws.{none_in_zero}
use Rattle.plain.proofs.Plain.{lt_or_le, eq_or_ne}
use Rattle.sets.specs.Set.{Exactly}
use Rattle.shapes.specs.Shape.{Block}
use Rattle.walks.specs.Walk.{lessen, past}
use Rattle.pads.specs.Pad.{one, after, UpToEnd, Along, here, skip, take}
use Rattle.pads.proofs.Paths.{after_on, after_stays}
use Rattle.row_paths.specs.Rows.{BlockIn}

-- no run that starts before p goes past p
abbrev pub Edge : (ℕ → Block) → ℕ → Type 0
Edge Y p = (y : ℕ) → y < p → y + (Y y).upper ≤ p

-- a character takes no more than the room
one_within : (n : ℕ) → one n ≤ n
unfolding one
one_within zero = omega arith
one_within (suc n) = omega arith

-- ---- readings

module _ {Y : ℕ → Block} {pad : ℕ} where
  pub along_from : {j q q' : ℕ} → q ≡ q' → Along Y pad j q → Along Y pad j q'
  along_from {j} e a = subst (Along Y pad j) e a

  pub along_to : {i j q : ℕ} → i ≡ j → Along Y pad i q → Along Y pad j q
  along_to {q = q} e a = subst (λ (x : ℕ). Along Y pad x q) e a

  -- nothing goes back
  pub along_on : {j q : ℕ} → Along Y pad j q → q ≤ j
  along_on (here e) = omega arith
  along_on (skip l a) = let h = along_on a in omega arith
  along_on (take m a) = let h = along_on a in omega arith

  -- an edge is passed by standing on it
  pub along_cross : {p j q : ℕ} → Edge Y p → q ≤ p → p ≤ j → Along Y pad j q → Along Y pad p q × Along Y pad j p
  along_cross {p} edge h g (here {q = q} e) = (here {q = q} (omega arith), here {q = p} (omega arith))
  along_cross {p} {j} edge h g (skip {q = q} l a) = ⊎_elim
      (λ e. (here e, along_from e (skip l a)))
      (λ n. let low : q < p = omega (arith, n) in let c = along_cross edge (edge q low) g a in (skip l c.0, c.1))
      (eq_or_ne q p)
  along_cross {p} {j} edge h g (take {q = q} m a) = ⊎_elim
      (λ e. (here e, along_from e (take m a)))
      (λ n.
      let low : q < p = omega (arith, n) in
      let u = edge q low in
      let w = one_within (Y q).upper in
      let c = along_cross edge (omega arith) g a in
      (take m c.0, c.1))
      (eq_or_ne q p)

-- ---- a block on the way

module _ {Y : ℕ → Block} {p : ℕ} {b : Block} (k : BlockIn Y p b) where
  slot_at : (q : ℕ) → p ≤ q → q < p + b.upper → Y q ≡ lessen b (q - p)
  slot_at q h g = ap Y (let e : q ≡ p + (q - p) = omega arith in e) ∙ k.slot (q - p) (omega arith)

  base_at : (q : ℕ) → p ≤ q → q < p + b.upper → (Y q).base ≡ b.base
  base_at q h g = ap (λ (c : Block). c.base) (slot_at q h g)

  -- its runs end where it does
  pub run_end : (q : ℕ) → p ≤ q → q < p + b.upper → q + (Y q).upper ≡ p + b.upper
  run_end q h g = let u : (Y q).upper ≡ b.upper - (q - p) = ap (λ (c : Block). c.upper) (slot_at q h g) in omega arith

  -- a character leads to its next position
  pub next_at : (q : ℕ) → p ≤ q → q < p + b.upper → after Y q ≡ q + 1
  next_at q h g = after_on Y q (let e = run_end q h g in omega arith)

  -- a run may end once it has enough
  pub run_free : (q : ℕ) → p + b.lower ≤ q → q < p + b.upper → (Y q).lower ≡ 0
  run_free q h g = let u : (Y q).lower ≡ b.lower - (q - p) = ap (λ (c : Block). c.lower) (slot_at q (omega arith) g) in omega arith

  pub free_run : (q : ℕ) → p ≤ q → q < p + b.upper → (Y q).lower ≡ 0 → p + b.lower ≤ q
  free_run q h g z = let u : (Y q).lower ≡ b.lower - (q - p) = ap (λ (c : Block). c.lower) (slot_at q h g) in omega arith

  -- its end is an edge too
  pub edge_after : Edge Y (p + b.upper)
  edge_after y h = ⊎_elim
      (λ g. let e = k.edge y g in omega arith)
      (λ g. let e = run_end y g h in omega arith)
      (lt_or_le y p)

  module _ {pad : ℕ} where
    -- padding at one of its positions is padding of the block
    pub pad_block : (q : ℕ) → p ≤ q → q < p + b.upper → Meets pad (Y q).base → Meets b.base pad
    pad_block q h g m = record { shared = m.shared; first = subst (λ (x : ℕ). Holds x m.shared) (base_at q h g) m.second; second = m.first }

    pub block_pad : (q : ℕ) → p ≤ q → q < p + b.upper → Meets b.base pad → Meets pad (Y q).base
    block_pad q h g m = record { shared = m.shared; first = m.second; second = subst (λ (x : ℕ). Holds x m.shared) (sym (base_at q h g)) m.first }

    -- a block with padding is read from each position to each later one
    over_many : (n q i : ℕ) → Meets b.base pad → p ≤ q → q + n ≡ i → i ≤ p + b.upper → Along Y pad i q
    over_many zero q i m h e g = here {q = q} (omega arith)
    over_many (suc n) q i m h e g =
        take (block_pad q h (omega arith) m) (along_from (sym (next_at q h (omega arith))) (over_many n (q + 1) i m (omega arith) (omega arith) g))

    pub over_pad : (q i : ℕ) → Meets b.base pad → p ≤ q → q ≤ i → i ≤ p + b.upper → Along Y pad i q
    over_pad q i m h l g = over_many (i - q) q i m h (omega arith) g

    -- where its run may end, its end is reached
    pub over_run : (q : ℕ) → p + b.lower ≤ q → q < p + b.upper → Along Y pad (p + b.upper) q
    over_run q h g = skip (run_free q h g) (here (run_end q (omega arith) g))

    -- from one of its positions one goes nowhere, or the run ends, or the block has padding
    pub first_step : (j q : ℕ) → p ≤ q → q < p + b.upper → Along Y pad j q
        → (q ≡ j) ⊎ (((p + b.lower ≤ q) × (p + b.upper ≤ j)) ⊎ Meets b.base pad)
    first_step j q h g (here e) = inl e
    first_step j q h g (skip l a) = inr (inl (free_run q h g l, let e = run_end q h g in let o = along_on a in omega arith))
    first_step j q h g (take m a) = inr (inr (pad_block q h g m))

-- ---- the end

-- past the end W nothing stands
pub record Bare (Y : ℕ → Block) (W : ℕ) : Type 0 where
  pub ending : UpToEnd Y W
  pub none : (q : ℕ) → W < q → Y q ≡ past

module _ {Y : ℕ → Block} {pad W : ℕ} (k : Bare Y W) where
  -- from the end one stays there
  pub along_end : {j q : ℕ} → q ≡ W → Along Y pad j q → j ≡ W
  along_end d (here e) = sym e ∙ d
  along_end d (skip l a) = absurd (k.ending.no_run (subst (λ (x : ℕ). (Y x).lower ≡ 0) d l))
  along_end d (take m a) = along_end (ap (after Y) d ∙ after_stays Y W k.ending.no_room) a

  -- past it nothing moves
  along_none : {j q : ℕ} → W < q → Along Y pad j q → q ≡ j
  unfolding Empty
  along_none h (here e) = e
  along_none h (skip {q = q} l a) = let z : ◌≡◌ {A = ℕ} 1 0 = sym (ap (λ (b : Block). b.lower) (k.none q h)) ∙ l in absurd (omega arith)
  along_none h (take {q = q} m a) = absurd (none_in_zero m.shared (subst (λ (b : Block). Holds b.base m.shared) (k.none q h) m.second))

  -- what comes past it was there
  pub along_past : (j q : ℕ) → W < j → Along Y pad j q → q ≡ j
  along_past j q h a = ⊎_elim
      (λ g. along_none g a)
      (λ g. let e = along_end refl (along_cross k.ending.within g (omega arith) a).1 in absurd (omega arith))
      (lt_or_le W q)

-- ---- the rows of a block

-- what the rows of the block b at p hold, and whether it may hold padding
pub record BlockRows (Y : ℕ → Block) (pad p : ℕ) (b : Block) (zone end slot : ℕ) (padded : Bool) : Type 0 where
  pub at : BlockIn Y p b
  pub zone_is : Exactly zone (λ q. (p + b.lower ≤ q) × (q < p + b.upper))
  pub end_is : Exactly end (λ q. q ≡ p + b.upper)
  pub slot_is : Exactly slot (λ q. (p ≤ q) × (q < p + b.upper))
  pub told : Tells padded (Meets b.base pad)
