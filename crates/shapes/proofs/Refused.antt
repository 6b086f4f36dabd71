-- The refusals of a shape: what the check of its blocks says of the whole, and that one input has one answer. Assumes
-- nothing.
use mathlib.Core.Path.{◌≡◌, refl, sym, ap, ◌∙◌}
use mathlib.Core.List.{List}
use mathlib.Core.Logic.{◌⊎◌, inl, inr}
use Prim.Native.Nat.{ℕ, ◌+◌, ◌≤◌, ◌<◌}
use native.Mathlib.Omega.{arith}
use lib.ListN.{length, get_or}
use Rattle.answers.specs.Told.{Told, tell}
use Rattle.answers.specs.Turns.{here, later, in_turn, need}
use Rattle.answers.proofs.Turns.{OneOf, EachOne, need_one, in_turn_one, then_checked, due_tells, need_tells, forbid_tells}
use Rattle.std.specs.Prelude.{Result}
use Rattle.answers.specs.declared.Refusal.{Refusal}
use Rattle.plain.specs.All.{All}
use Rattle.shapes.specs.Shape.{Block, Sound, no_block, total}
use Rattle.shapes.specs.Wrong.{block_turns, of_block, BlockRefused}
use Rattle.shapes.specs.Lent.{shape_of, RightLength, blocks_turns, BlocksRefused, shape_turns, ShapeRefused, of_shape, Accepted, BlocksChecked, ShapeChecked}
use Rattle.plain.proofs.All.{all_at}
use Rattle.answers.proofs.FirstBad.{one_by_one_lem}
use Rattle.shapes.proofs.Wrong.{of_block_lem}

-- numbers of the right length are checked as their blocks are
pub blocks_then : (n : ℕ) (xs : List ℕ) (r : Result Unit Refusal) → RightLength xs → BlocksChecked n (shape_of xs) r → ShapeChecked n xs r
blocks_then n xs r h p = then_checked (need (RightLength xs) (tell 1 n 0)) (blocks_turns n (shape_of xs)) r h (λ (g, l). record { right = h; sound = g; short = l }) p

-- ---- one answer

of_each : {n : ℕ} {s : List Block} → EachOne (blocks_turns n s)
of_each {n} {s} = (one_by_one_lem (length s) (λ j. of_block n (j + 1) (get_or s j no_block)) (λ j. of_block_lem) (λ g. all_at no_block g), (need_one, tt))

pub of_blocks : {n : ℕ} {s : List Block} {Good : Type 0} → (Good → All Sound s × (total s ≤ 250)) → OneOf (in_turn Good (blocks_turns n s))
of_blocks {n} {s} good = in_turn_one (blocks_turns n s) of_each (λ g. ((good g).0, ((good g).1, tt)))

pub of_shape_lem : {n : ℕ} {xs : List ℕ} → OneOf (of_shape n xs)
of_shape_lem {n} {xs} = in_turn_one (shape_turns n xs) (need_one, of_each) (λ a. (a.right, (a.sound, (a.short, tt))))

pub shape_one : {n : ℕ} {xs : List ℕ} {t u : Told} → ShapeRefused n xs t → ShapeRefused n xs u → t ≡ u
shape_one p q = of_shape_lem.one p q

pub shape_not : {n : ℕ} {xs : List ℕ} {t : Told} → ShapeRefused n xs t → Accepted xs → ⊥
shape_not p a = of_shape_lem.not p a

-- ---- what is told: it has whatever property the refusals of shape number n have

pub block_tells : (Q : Told → Type 0) {n i : ℕ} {b : Block} {t : Told} → Q (tell 2 n i) → Q (tell 10 n i) → Q (tell 11 n i) → BlockRefused n i b t → Q t
block_tells Q {n} {i} {b} {t} two ten eleven r =
    due_tells Q (block_turns n i b) (forbid_tells Q two, (forbid_tells Q ten, (forbid_tells Q eleven, tt))) t r

pub blocks_tells : (Q : Told → Type 0) {n : ℕ} {s : List Block} {t : Told} → ((i : ℕ) → Q (tell 2 n i) × Q (tell 10 n i) × Q (tell 11 n i)) → Q (tell 3 n 0)
    → BlocksRefused n s t → Q t
blocks_tells Q {n} {s} {t} block three r =
    due_tells Q (blocks_turns n s) ((λ u p. let q = block (p.1.first.before + 1) in block_tells Q q.0 q.1 q.2 p.1.refused), (need_tells Q three, tt)) t r

pub shape_tells : (Q : Told → Type 0) {n : ℕ} {xs : List ℕ} {t : Told} → Q (tell 1 n 0) → ((i : ℕ) → Q (tell 2 n i) × Q (tell 10 n i) × Q (tell 11 n i)) → Q (tell 3 n 0)
    → ShapeRefused n xs t → Q t
shape_tells Q one block three (here p) = need_tells Q one _ p
shape_tells Q one block three (later r p) = blocks_tells Q block three p

pub blocks_text : {n : ℕ} {s : List Block} {t : Told} → BlocksRefused n s t → t.text ≡ n
blocks_text {n} p = blocks_tells (λ (u : Told). u.text ≡ n) (λ i. (refl, refl, refl)) refl p

pub shape_text : {n : ℕ} {xs : List ℕ} {t : Told} → ShapeRefused n xs t → t.text ≡ n
shape_text {n} p = shape_tells (λ (u : Told). u.text ≡ n) refl (λ i. (refl, refl, refl)) refl p

-- a number between 3 and 10, or above 11
abbrev pub Other : ℕ → Type 0
Other m = (3 < m) × ((m < 10) ⊎ (11 < m))

pub numbered : {t : Told} {n m a b : ℕ} → t ≡ tell n a b → t.number ≡ m → n ≡ m
numbered e h = sym (ap (λ (u : Told). u.number) e) ∙ h

apart : {n m : ℕ} → Other m → (n < 4) ⊎ ((9 < n) × (n < 12)) → n ≡ m → ⊥
apart (a, b) (inl h) e = omega (arith, a, h, e)
apart (a, inl l) (inr h) e = let x = h.0 in omega (arith, l, x, e)
apart (a, inr g) (inr h) e = let x = h.1 in omega (arith, g, x, e)

pub shape_other : {n m : ℕ} {xs : List ℕ} {t : Told} → Other m → ShapeRefused n xs t → t.number ≡ m → ⊥
shape_other {m = m} o d =
    shape_tells (λ (t : Told). t.number ≡ m → ⊥) (apart o (inl (omega arith)))
    (λ i. (apart o (inl (omega arith)), apart o (inr (omega arith, omega arith)), apart o (inr (omega arith, omega arith)))) (apart o (inl (omega arith))) d
