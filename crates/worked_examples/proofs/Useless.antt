-- Document 01, "What the stated promises have to settle": useless builds are shut out by the rows, since an outcome is
-- determined; under equality to the letter, and under that of kind 0 (document 02, order 5), which is the same of
-- shapes that hold no blank. Assumes nothing.
use mathlib.Core.Path.{◌≡◌, refl, sym, ap, ◌∙◌, subst}
use mathlib.Core.List.{List, [], ◌∷◌, ◌++◌, append-nil}
use Prim.Native.Nat.{ℕ, zero, suc, ◌+◌}
use native.Mathlib.Omega.{arith}
use lib.ListN.{replicate}
use Rattle.bases.specs.Base.{Holds}
use Rattle.plain.specs.All.{All}
use Rattle.plain.proofs.All.{all_head, all_right, all_map}
use Rattle.shapes.specs.Shape.{Block, Run, Filling, fill, done, text_of}
use Rattle.texts.specs.Padding.{blank, trimmed, Padded, BlanksBehind}
use Rattle.texts.proofs.Padding.{padded_equal, trimmed_blanks}
use Rattle.hulls.specs.Hull.{Pairs, Outcome, none, shapes, NarrowsTo, to_none, to_shapes}
use Rattle.hulls.proofs.Hull.{one_outcome, same_rule, same_none}
use Rattle.walks.specs.Walk.{Same}
use Rattle.worked_examples.specs.Letters.{a, b, c, d, block, NarrowedTo, both}
use Rattle.worked_examples.proofs.Rows.{rows}

-- how many blocks an outcome has, and the lower of its first
size : Outcome → ℕ
size none = 0
size (shapes []) = 0
size (shapes (x ∷ s)) = 1

lower : Outcome → ℕ
lower none = 0
lower (shapes []) = 0
lower (shapes (x ∷ s)) = x.lower

-- P1's shapes
abbrev x : List Block
x = block (a + b + c) 0 3 ∷ []

abbrev y : List Block
y = block (b + c + d) 2 2 ∷ []

-- one that says none always
pub not_always_none : NarrowedTo Same x y none → ⊥
unfolding size
not_always_none h = let e : ◌≡◌ {A = ℕ} 1 0 = ap size (one_outcome rows.p1.narrows h.narrows) in omega arith

-- one that copies the shapes back
pub not_copied : NarrowedTo Same x y (both x y) → ⊥
unfolding lower
not_copied h = let e : ◌≡◌ {A = ℕ} 2 0 = ap lower (one_outcome rows.p1.narrows h.narrows) in omega arith

-- one with a constant answer, whichever it is: P1 and P3
pub not_constant : (o : Outcome) → NarrowedTo Same x y o → NarrowedTo Same (block a 1 1 ∷ []) (block b 1 1 ∷ []) o → ⊥
unfolding size
not_constant o h g =
    let e : ◌≡◌ {A = ℕ} 1 0 = ap size (one_outcome rows.p1.narrows h.narrows ∙ one_outcome g.narrows rows.p3.narrows) in
    omega arith

-- ---- under kind 0

-- a text without blanks is its own trimmed text
no_blank : (t : List ℕ) → All (λ (c : ℕ). c ≡ blank → ⊥) t → trimmed t ≡ t
no_blank t n = go b.number b.joined
  where
    b : BlanksBehind t (trimmed t)
    b = trimmed_blanks t

    go : (k : ℕ) → t ≡ trimmed t ++ replicate k blank → trimmed t ≡ t
    go zero e = sym (e ∙ append-nil (trimmed t))
    go (suc k) e = absurd (all_head (all_right (trimmed t) (replicate (suc k) blank) (subst (All (λ (c : ℕ). c ≡ blank → ⊥)) e n)) refl)

run_trimmed : {b : Block} {r : List ℕ} → (Holds b.base blank → ⊥) → Run b r → trimmed (r ++ []) ≡ r ++ []
run_trimmed {b} {r} n p = no_blank (r ++ []) (subst (All (λ (c : ℕ). c ≡ blank → ⊥)) (sym (append-nil r)) (all_map (λ c h e. n (subst (Holds b.base) e h)) p.held))

-- two blocks that hold no blank: their runs are equal but for padding exactly if they are equal
module _ {b₁ b₂ : Block} (n₁ : Holds b₁.base blank → ⊥) (n₂ : Holds b₂.base blank → ⊥) where
  same_texts : (f : List (List ℕ)) → Filling (b₁ ∷ (b₂ ∷ [])) f → Pairs Padded 1 f → Pairs Same 1 f
  unfolding text_of
  same_texts f (fill p (fill q done)) e = sym (run_trimmed n₁ p) ∙ e ∙ run_trimmed n₂ q

  as_same : {o : Outcome} → NarrowedTo Padded (b₁ ∷ []) (b₂ ∷ []) o → NarrowedTo Same (b₁ ∷ []) (b₂ ∷ []) o
  as_same h = record { narrows = go h.narrows }
    where
      go : {o : Outcome} → NarrowsTo (Pairs Padded 1) (b₁ ∷ (b₂ ∷ [])) o → NarrowsTo (Pairs Same 1) (b₁ ∷ (b₂ ∷ [])) o
      go (to_none n) = to_none (same_none (λ f g e. padded_equal e) n)
      go (to_shapes h) = to_shapes (same_rule same_texts (λ f g e. padded_equal e) h)

no_blank_x : Holds (a + b + c) blank → ⊥
unfolding Holds
no_blank_x h = let z : ◌≡◌ {A = ℕ} 0 1 = h in omega arith

no_blank_y : Holds (b + c + d) blank → ⊥
unfolding Holds
no_blank_y h = let z : ◌≡◌ {A = ℕ} 0 1 = h in omega arith

no_blank_a : Holds a blank → ⊥
unfolding Holds
no_blank_a h = let z : ◌≡◌ {A = ℕ} 0 1 = h in omega arith

no_blank_b : Holds b blank → ⊥
unfolding Holds
no_blank_b h = let z : ◌≡◌ {A = ℕ} 0 1 = h in omega arith

pub not_always_none_padded : NarrowedTo Padded x y none → ⊥
not_always_none_padded h = not_always_none (as_same no_blank_x no_blank_y h)

pub not_copied_padded : NarrowedTo Padded x y (both x y) → ⊥
not_copied_padded h = not_copied (as_same no_blank_x no_blank_y h)

pub not_constant_padded : (o : Outcome) → NarrowedTo Padded x y o → NarrowedTo Padded (block a 1 1 ∷ []) (block b 1 1 ∷ []) o → ⊥
not_constant_padded o h g = not_constant o (as_same no_blank_x no_blank_y h) (as_same no_blank_a no_blank_b g)
