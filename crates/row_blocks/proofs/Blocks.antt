-- What sets of positions tell of one block, and of a shape's blocks one after the other. Assumes nothing.
use mathlib.Core.Path.{◌≡◌, refl, sym, ◌∙◌, subst}
use mathlib.Core.List.{List}
use mathlib.Core.Logic.{⊎_elim}
use Prim.Native.Nat.{ℕ, ◌+◌, ◌-◌, ◌≤◌, ◌<◌}
use native.Mathlib.Omega.{arith}
use lib.Bits.{bit_and}
use lib.ListN.{take}
use Rattle.bases.specs.Base.{Holds, Empty, Least, Greatest}
use Rattle.plain.proofs.Plain.{lt_or_le}
use Rattle.sets.specs.Set.{Exactly}
use Rattle.sets.specs.declared.Set.{Set}
use Rattle.sets.proofs.Exact.{exactly_as, both_exactly}
use Rattle.shapes.specs.Shape.{Block, total}
use Rattle.shapes.specs.Lent.{shape_of, block_at, Put}
use Rattle.shapes.proofs.Put.{put_others}
use Rattle.rows.specs.Row.{row_in}
use Rattle.row_blocks.specs.Blocks.{LengthBy, early, full, bare, AnyLength, ToldBy, ToldTo}

-- ---- one block

pub held_of : (s t : ℕ) {n : ℕ} {P : ℕ → Type 0} → n ≡ bit_and s t → Exactly t P → Exactly n (λ q. Holds s q × P q)
held_of s t d x = exactly_as (λ q h. (h.0, x.so q h.1)) (λ q h. (h.0, x.has q h.1)) (both_exactly s t d)

pub any_at : {quit moved p q : ℕ} {b c : Block} → p ≡ q → b ≡ c → AnyLength quit moved q c → AnyLength quit moved p b
any_at {quit} {moved} {p} {c = c} e d w =
    subst (λ (x : Block). AnyLength quit moved p x) (sym d) (subst (λ (x : ℕ). AnyLength quit moved x c) (sym e) w)

-- `ends`: where the run of the block b at p may end early
module _ {quit moved p ends : ℕ} {b : Block} (x : Exactly ends (λ q. Holds quit q × ((p ≤ q) × (q < p + b.upper)))) where
  -- where it never does, the full length is the only one
  only_full : Empty ends → (n : ℕ) → LengthBy quit moved p b n → n ≡ b.upper
  unfolding Empty
  only_full none n (early l h) = absurd (none (p + n) (x.has (p + n) (h, (omega arith, omega arith))))
  only_full none n (full k e f h) = f
  only_full none n (bare u e) = omega arith

  early_at : (f : ℕ) → Holds ends f → LengthBy quit moved p b (f - p)
  early_at f h =
      let w = x.so f h in
      let at : f ≡ p + (f - p) = let z = w.1 in omega arith in
      early (let z = w.1 in omega arith) (subst (Holds quit) at w.0)

  module _ {f : ℕ} (l : Least ends f) where
    not_shorter : (n : ℕ) → LengthBy quit moved p b n → f - p ≤ n
    not_shorter n (early s h) = let z = l.least (p + n) (x.has (p + n) (h, (omega arith, omega arith))) in omega arith
    not_shorter n (full k e g h) = let z = (x.so f l.held).1 in omega arith
    not_shorter n (bare u e) = let z = (x.so f l.held).1 in omega arith

    -- it takes all that the block allows if it takes the last
    full_at : Holds moved (p + b.upper - 1) → LengthBy quit moved p b b.upper
    full_at h =
        let z = (x.so f l.held).1 in
        let at : p + b.upper - 1 ≡ p + (b.upper - 1) = omega arith in
        full (b.upper - 1) (omega arith) refl (subst (Holds moved) at h)

    not_full : (Holds moved (p + b.upper - 1) → ⊥) → {g : ℕ} → Greatest ends g → (n : ℕ) → LengthBy quit moved p b n → n ≤ g - p
    not_full m {g} t n (early s h) = let z = t.greatest (p + n) (x.has (p + n) (h, (omega arith, omega arith))) in omega arith
    not_full m {g} t n (full k e d h) = let at : p + k ≡ p + b.upper - 1 = omega arith in absurd (m (subst (Holds moved) at h))
    not_full m {g} t n (bare u e) = let z = (x.so f l.held).1 in omega arith

  within_upper : (n : ℕ) → LengthBy quit moved p b n → n ≤ b.upper
  within_upper n (early l h) = omega arith
  within_upper n (full k e f h) = omega arith
  within_upper n (bare u e) = omega arith

  module _ {chars base : ℕ} (d : base ≡ bit_and b.base chars) where
    pub told_full : Empty ends → AnyLength quit moved p b → ToldBy chars quit moved p b (record { base = base; lower = b.upper; upper = b.upper })
    told_full none w =
        let whole : LengthBy quit moved p b b.upper = subst (LengthBy quit moved p b) (only_full none w.0 w.1) w.1 in
        record {
          base = d;
          shortest = whole;
          not_shorter = λ n h. let e = only_full none n h in omega arith;
          longest = whole;
          not_longer = λ n h. let e = only_full none n h in omega arith;
        }

    pub told_both : {f : ℕ} → Least ends f → Holds moved (p + b.upper - 1)
        → ToldBy chars quit moved p b (record { base = base; lower = f - p; upper = b.upper })
    told_both l m = record { base = d; shortest = early_at _ l.held; not_shorter = not_shorter l; longest = full_at l m; not_longer = within_upper }

    pub told_early : {f g : ℕ} → Least ends f → (Holds moved (p + b.upper - 1) → ⊥) → Greatest ends g
        → ToldBy chars quit moved p b (record { base = base; lower = f - p; upper = g - p })
    told_early l m t = record { base = d; shortest = early_at _ l.held; not_shorter = not_shorter l; longest = early_at _ t.held; not_longer = not_full l m t }

-- ---- the blocks of a shape

module _ {chars : List Set} {quit moved : ℕ} {xs : List ℕ} where
  pub told_none : (o : List ℕ) → ToldTo chars quit moved xs 0 o o
  told_none o = record { long = refl; blocks = λ i h. absurd (omega arith); kept = λ k h. refl }

  pub told_more : {i p row : ℕ} {o o₁ o₂ : List ℕ} {b h : Block} → p ≡ total (take i (shape_of xs)) → b ≡ block_at xs i → row ≡ row_in chars i
      → ToldTo chars quit moved xs i o o₁ → ToldBy row quit moved p b h → Put o₁ i h o₂ → ToldTo chars quit moved xs (i + 1) o o₂
  told_more {i} {p} {row} {o} {o₁} {o₂} {b} {h} e d r s g u = record {
    long = u.long ∙ s.long;
    blocks = λ j l. ⊎_elim
        (λ c. subst (ToldBy (row_in chars j) quit moved (total (take j (shape_of xs))) (block_at xs j)) (sym (put_others u j (λ z. omega arith))) (s.blocks j c))
        (λ c. let same : j ≡ i = omega arith in
        subst (λ (x : ℕ). ToldBy (row_in chars x) quit moved (total (take x (shape_of xs))) (block_at xs x) (block_at o₂ x)) (sym same)
        (subst (ToldBy (row_in chars i) quit moved (total (take i (shape_of xs))) (block_at xs i)) (sym u.here) here))
        (lt_or_le j i);
    kept = λ k l. u.kept k (λ z. omega arith) ∙ s.kept k (omega arith);
  }
    where
      here : ToldBy (row_in chars i) quit moved (total (take i (shape_of xs))) (block_at xs i) h
      here = subst (λ (x : ℕ). ToldBy x quit moved (total (take i (shape_of xs))) (block_at xs i) h) r
          (subst (λ (x : ℕ). ToldBy row quit moved x (block_at xs i) h) e (subst (λ (x : Block). ToldBy row quit moved p x h) d g))

  pub told_to : {n l : ℕ} {o o' : List ℕ} → n ≡ l → ToldTo chars quit moved xs n o o' → ToldTo chars quit moved xs l o o'
  told_to {o = o} {o' = o'} e s = subst (λ (x : ℕ). ToldTo chars quit moved xs x o o') e s
