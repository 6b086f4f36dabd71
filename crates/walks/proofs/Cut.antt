-- A text cut at a character, and a reading cut within a block. Assumes nothing.
use mathlib.Core.Path.{◌≡◌, refl, sym, ap, ◌∙◌}
use mathlib.Core.List.Memᴰ
use mathlib.Core.List.{List, [], ◌∷◌, ◌++◌, append_assoc}
use Prim.Native.Nat.{ℕ, ◌+◌, ◌≤◌, ◌<◌}
use native.Mathlib.Omega.{arith}
use lib.ListN.{length}
use Rattle.bases.specs.Base.{Holds}
use Rattle.plain.specs.All.{All}
use Rattle.shapes.specs.Shape.{Block}
use Rattle.hulls.specs.Hull.{Occurs}
use Rattle.walks.specs.Walk.{Walk}
use Rattle.walks.proofs.Walks.{walk_from, walk_to, walk_append}
use Rattle.walks.proofs.Laid.{Has, steps, inside, enter}

-- ---- lists

pub last_of : (c : ℕ) (r : List ℕ) → (q : List ℕ) × (d : ℕ) × (c ∷ r ≡ q ++ (d ∷ []))
last_of c [] = ([], c, refl)
last_of c (d ∷ r) = let l = last_of d r in (c ∷ l.0, l.1, ap (λ (l : List ℕ). c ∷ l) l.2)

pub occurs_split : {c : ℕ} {r : List ℕ} → Occurs c r → (q : List ℕ) × (s : List ℕ) × (r ≡ q ++ (c ∷ s))
occurs_split {c = c} {r = []} x'' = elim x'' [ ]
occurs_split {c} {r = d ∷ r} (Memᴰ.head e) = ([], r, ap (λ (x : ℕ). x ∷ r) (sym e))
occurs_split {c} {r = d ∷ r} (Memᴰ.tail m) = let l = occurs_split m in (d ∷ l.0, l.1, ap (λ (l : List ℕ). d ∷ l) l.2)

pub occurs_within : (c : ℕ) (q s : List ℕ) → Occurs c (q ++ (c ∷ s))
occurs_within c [] s = Memᴰ.head refl
occurs_within c (d ∷ q) s = Memᴰ.tail (occurs_within c q s)

pub last_text : (f q b : List ℕ) (d : ℕ) → f ++ ((q ++ (d ∷ [])) ++ b) ≡ (f ++ q) ++ (d ∷ b)
last_text f q b d = ap (λ (l : List ℕ). f ++ l) (append_assoc q (d ∷ []) b) ∙ sym (append_assoc f q (d ∷ b))

pub within_text : (f q s b : List ℕ) (d : ℕ) → f ++ ((q ++ (d ∷ s)) ++ b) ≡ (f ++ q) ++ (d ∷ (s ++ b))
within_text f q s b d = ap (λ (l : List ℕ). f ++ l) (append_assoc q (d ∷ s) b) ∙ sym (append_assoc f q (d ∷ (s ++ b)))

-- ---- a block among the positions of X

module _ {X : ℕ → Block} {p : ℕ} {b : Block} (has : Has X p b) where
  -- read from the start to within the block
  pub to_within : {f : List ℕ} (q : List ℕ) → Walk X p 0 f → All (Holds b.base) q → length q ≤ b.upper → Walk X (p + length q) 0 (f ++ q)
  to_within q w h l = walk_append w
      (walk_from (let e : p ≡ p + 0 = omega arith in e) (walk_to (let e : p + (0 + length q) ≡ p + length q = omega arith in e) (steps has 0 q h (omega arith))))

  -- what is read to within the block
  pub from_within : {t : List ℕ} → ((y : ℕ) → y < p → y + (X y).upper ≤ p) → (k : ℕ) → k < b.upper → Walk X (p + k) 0 t
      → (f : List ℕ) × (q : List ℕ) × (t ≡ f ++ q) × Walk X p 0 f × All (Holds b.base) q × (length q ≡ k)
  from_within edge k l w =
      let e = enter edge (omega arith) (omega arith) w in
      let i = inside has e.after 0 k (omega arith) refl (omega arith) l in
      let n = i.1 in
      (e.front, e.rest, e.text, e.before, i.0, omega arith)
