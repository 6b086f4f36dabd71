-- The groups of a book by number: one list, each group once, in rising order. Assumes nothing.
use mathlib.Core.Path.{◌≡◌, refl, ap}
use mathlib.Core.List.{List, [], ◌∷◌, ◌++◌}
use Prim.Native.Nat.{ℕ, zero, suc, ◌+◌, ◌-◌, ◌<◌}
use native.Mathlib.Omega.{arith}
use lib.ListN.{length, get_or}
use Rattle.answers.specs.declared.TextRan.{TextRan}
use Rattle.groups.specs.Ends.{no_text_ran, GroupsIn, end, names, follows}

pub groups_one : {k : ℕ} {es gs hs : List TextRan} → GroupsIn k es gs → GroupsIn k es hs → gs ≡ hs
groups_one end end = refl
groups_one (names {e = e} a p) (names b q) = ap (λ (l : List TextRan). e ∷ l) (groups_one p q)
groups_one (names a p) (follows b q) = absurd (b a)
groups_one (follows a p) (names b q) = absurd (a b)
groups_one (follows a p) (follows b q) = groups_one p q

-- one text more at the end
pub names_last : {k : ℕ} {es gs : List TextRan} (e : TextRan) → GroupsIn k es gs → e.group ≡ k + length es → GroupsIn k (es ++ (e ∷ [])) (gs ++ (e ∷ []))
names_last {k} e end h = let first : e.group ≡ k = omega arith in names first end
names_last e (names a p) h = names a (names_last e p (omega arith))
names_last e (follows a p) h = follows a (names_last e p (omega arith))

pub follows_last : {k : ℕ} {es gs : List TextRan} (e : TextRan) → GroupsIn k es gs → (e.group ≡ k + length es → ⊥) → GroupsIn k (es ++ (e ∷ [])) gs
follows_last {k} e end h = follows (λ (q : e.group ≡ k). h (omega arith)) end
follows_last e (names a p) h = names a (follows_last e p (λ q. h (omega arith)))
follows_last e (follows a p) h = follows a (follows_last e p (λ q. h (omega arith)))

-- each is the record of the text that names its group, and of each such text there is one
pub groups_named : {k : ℕ} {es gs : List TextRan} → GroupsIn k es gs → (i : ℕ) → i < length gs
    → (j : ℕ) × (j < length es) × (get_or gs i no_text_ran ≡ get_or es j no_text_ran) × ((get_or gs i no_text_ran).group ≡ k + j)
groups_named end i h = absurd (omega arith)
groups_named (names a p) zero h = (0, omega arith, refl, omega arith)
groups_named (names a p) (suc i) h = let r = groups_named p i (omega arith) in let l = r.1 in let g = r.3 in (suc r.0, omega arith, r.2, omega arith)
groups_named (follows a p) i h = let r = groups_named p i h in let l = r.1 in let g = r.3 in (suc r.0, omega arith, r.2, omega arith)

pub groups_all : {k : ℕ} {es gs : List TextRan} → GroupsIn k es gs → (j : ℕ) → j < length es → (get_or es j no_text_ran).group ≡ k + j
    → (i : ℕ) × (i < length gs) × (get_or gs i no_text_ran ≡ get_or es j no_text_ran)
groups_all end j h e = absurd (omega arith)
groups_all (names a p) zero h e = (0, omega arith, refl)
groups_all (names a p) (suc j) h e = let r = groups_all p j (omega arith) (omega arith) in let l = r.1 in (suc r.0, omega arith, r.2)
groups_all (follows a p) zero h e = absurd (a (omega arith))
groups_all (follows a p) (suc j) h e = groups_all p j (omega arith) (omega arith)

-- by number
pub groups_rise : {k : ℕ} {es gs : List TextRan} → GroupsIn k es gs → (i j : ℕ) → i < j → j < length gs → (get_or gs i no_text_ran).group < (get_or gs j no_text_ran).group
groups_rise end i j l h = absurd (omega arith)
groups_rise (names a p) zero (suc j) l h = let r = groups_named p j (omega arith) in let g = r.3 in omega arith
groups_rise (names a p) (suc i) (suc j) l h = groups_rise p i j (omega arith) (omega arith)
groups_rise (names a p) zero zero l h = absurd (omega arith)
groups_rise (names a p) (suc i) zero l h = absurd (omega arith)
groups_rise (follows a p) i j l h = groups_rise p i j l h
