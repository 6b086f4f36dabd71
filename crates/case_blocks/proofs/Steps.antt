-- The blocks of a shape one after the other: with both cases of their letters, and cut. Assumes nothing.
use mathlib.Core.Path.{◌≡◌, refl, sym, ap, ◌∙◌, subst}
use mathlib.Core.List.{List}
use mathlib.Core.Logic.{⊎_elim}
use Prim.Native.Nat.{ℕ, ◌+◌, ◌*◌, ◌<◌}
use native.Mathlib.Omega.{arith}
use lib.Bits.{bit_and}
use Rattle.plain.proofs.Plain.{lt_or_le}
use Rattle.plain.proofs.Items.{numbers_same}
use Rattle.sets.specs.Set.{Exactly}
use Rattle.letters.specs.Case.{SomeCase}
use Rattle.shapes.specs.Shape.{Block, block_size}
use Rattle.shapes.specs.Lent.{block_of, block_at, Put}
use Rattle.shapes.proofs.Put.{put_others}
use Rattle.case_blocks.specs.Case.{Widened, cut_block}
use Rattle.case_blocks.specs.Code.{WidenedTo, CutTo}

-- ---- with both cases

pub widened_none : {xs : List ℕ} (w : List ℕ) → WidenedTo xs 0 w w
widened_none w = record { long = refl; blocks = λ j l. absurd (omega arith) }

-- a base and the counts of a block
pub widened_block : {b s : Block} {v : ℕ} → b ≡ s → Exactly v (SomeCase b.base) → Widened s (record { base = v; lower = b.lower; upper = b.upper })
widened_block {b} {v = v} e x = subst (λ (s : Block). Widened s (record { base = v; lower = b.lower; upper = b.upper })) e (record { base = x; lower = refl; upper = refl })

pub widened_more : {xs : List ℕ} {i : ℕ} {w w' w'' : List ℕ} {b : Block} → WidenedTo xs i w w' → Widened (block_at xs i) b → Put w' i b w'' → WidenedTo xs (i + 1) w w''
widened_more {xs} {i} {w'' = w''} t v p = record { long = p.long ∙ t.long; blocks = blocks }
  where
    blocks : (j : ℕ) → j < i + 1 → Widened (block_at xs j) (block_at w'' j)
    blocks j l = ⊎_elim
        (λ h. subst (Widened (block_at xs j)) (sym (put_others p j (λ z. omega arith))) (t.blocks j h))
        (λ h. let e : i ≡ j = omega arith in subst (λ (k : ℕ). Widened (block_at xs k) (block_at w'' k)) e (subst (Widened (block_at xs i)) (sym p.here) v))
        (lt_or_le j i)

pub widened_whole : {xs : List ℕ} {i n : ℕ} {w w' : List ℕ} → i ≡ n → WidenedTo xs i w w' → WidenedTo xs n w w'
widened_whole {xs} {w = w} {w' = w'} e t = subst (λ (k : ℕ). WidenedTo xs k w w') e t

-- ---- cut

pub cut_none : {xs : List ℕ} (o : List ℕ) → CutTo xs 0 o o
cut_none o = record { long = refl; blocks = λ j l. absurd (omega arith); kept = λ k l. refl }

-- the base that the code makes, and the new counts
pub cut_block_lem : {b s j t : Block} {v : ℕ} → b ≡ s → j ≡ t → v ≡ bit_and b.base j.base → ◌≡◌ {A = Block} (record { base = v; lower = j.lower; upper = j.upper }) (cut_block s t)
cut_block_lem {j = j} p q e = (λ i. record { base = e i; lower = j.lower; upper = j.upper }) ∙ (λ i. cut_block (p i) (q i))

pub cut_more : {xs : List ℕ} {i : ℕ} {o o' o'' : List ℕ} {b : Block} → CutTo xs i o o' → b ≡ cut_block (block_at xs i) (block_at o' i) → Put o' i b o'' → CutTo xs (i + 1) o o''
cut_more {xs} {i} {o} {o'} {o''} t e p = record {
  long = p.long ∙ t.long;
  blocks = λ j l. ⊎_elim
      (λ h. put_others p j (λ z. omega arith) ∙ t.blocks j h)
      (λ h. let at : i ≡ j = omega arith in subst (λ (k : ℕ). block_at o'' k ≡ cut_block (block_at xs k) (block_at o k)) at (p.here ∙ e ∙ ap (cut_block (block_at xs i)) as_it_was))
      (lt_or_le j i);
  kept = λ k l. p.kept k (λ z. omega arith) ∙ t.kept k (omega arith);
}
  where
    as_it_was : block_at o' i ≡ block_at o i
    as_it_was = ap block_of (numbers_same block_size o' o (i * block_size) (i * block_size) (λ j l. t.kept (i * block_size + j) (omega arith)))

pub cut_whole : {xs : List ℕ} {i n : ℕ} {o o' : List ℕ} → i ≡ n → CutTo xs i o o' → CutTo xs n o o'
cut_whole {xs} {o = o} {o' = o'} e t = subst (λ (k : ℕ). CutTo xs k o o') e t
