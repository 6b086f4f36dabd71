-- A block set among lent numbers: its numbers, and the base that its words are. Assumes nothing.
use mathlib.Core.Path.{◌≡◌, refl, ap, ◌∙◌}
use mathlib.Core.List.{List, [], ◌∷◌}
use Prim.Native.Nat.{ℕ, ◌+◌, ◌*◌, ◌^◌, ◌<◌}
use native.Mathlib.Nat.{mod-eq_of_lt}
use native.Mathlib.Omega.{arith}
use lib.Seq.{sets}
use Rattle.plain.specs.All.All.{none, more}
use Rattle.plain.specs.Items.{PutItem}
use Rattle.plain.proofs.Items.{numbers_same, put_item}
use Rattle.bases.specs.Base.{base_words, codes}
use Rattle.bases.proofs.Words.{first_words}
use Rattle.sets.specs.declared.Set.{Set}
use Rattle.sets.specs.Set.{set_of, Proper}
use Rattle.shapes.specs.Shape.{Block, block_size, block_count}
use Rattle.shapes.specs.Lent.{block_of, block_at, Put}

-- a block's numbers set
pub put_numbers : {w : List ℕ} {i : ℕ} {x w' : List ℕ} → PutItem block_size w i x w' → Put w i (block_of x) w'
put_numbers p = record { long = p.long; here = ap block_of p.here; kept = p.kept }

-- the other blocks
pub put_others : {w : List ℕ} {i : ℕ} {b : Block} {w' : List ℕ} → Put w i b w' → (q : ℕ) → (q ≡ i → ⊥) → block_at w' q ≡ block_at w q
put_others {w} {i} {w' = w'} p q n = ap block_of (numbers_same block_size w' w (q * block_size) (q * block_size) (λ j h. p.kept (q * block_size + j) (λ e. n (omega arith))))

-- a block of an equal base
pub of_base : {a b l u : ℕ} → a ≡ b → ◌≡◌ {A = Block} (record { base = a; lower = l; upper = u }) (record { base = b; lower = l; upper = u })
of_base {l = l} {u = u} e i = record { base = e i; lower = l; upper = u }

-- a block whose base has as many words as are lent for it
pub put_carried : (w : List ℕ) (i : ℕ) (s : Set) (c d : ℕ) → Proper s → set_of s < 2 ^ codes → i < block_count w
    → Put w i (record { base = set_of s; lower = c; upper = d }) (sets w (i * block_size) (s.a ∷ (s.b ∷ (s.c ∷ (s.d ∷ (c ∷ (d ∷ [])))))))
unfolding set_of
put_carried w i s c d p h l =
    let q = put_numbers (put_item block_size w i (s.a ∷ (s.b ∷ (s.c ∷ (s.d ∷ (c ∷ (d ∷ [])))))) refl (omega arith)) in
    record {
      long = q.long;
      here = q.here ∙ of_base (first_words base_words (more p.a (more p.b (more p.c (more p.d none)))) ∙ mod-eq_of_lt h);
      kept = q.kept;
    }
