-- The runner's steps have one outcome and one count. Assumes nothing.
use mathlib.Core.Path.{◌≡◌, refl, sym, ap, subst}
use mathlib.Core.Bool.{Bool, true, false}
use mathlib.Core.List.{List}
use mathlib.Core.Logic.{⊎_elim}
use Prim.Native.Nat.{ℕ, suc, ◌<◌}
use native.Mathlib.Omega.{arith}
use Rattle.plain.proofs.Plain.{lt_or_le}
use Rattle.shapes.specs.Shape.{Block}
use Rattle.hulls.specs.Hull.{Hull, Outcome}
use Rattle.hulls.specs.Book.{Among}
use Rattle.hulls.proofs.Hull.{one_hull, hull_or_none}
use Rattle.rules.specs.declared.Rule.{Rule}
use Rattle.rules.specs.Rule.{rule_count}
use Rattle.books.specs.Rules.{asks, rule_of, AllIn}
use Rattle.book_runs.specs.Rounds.{Rounds}
use Rattle.book_runs.specs.Rounds.Rounds.{stops, keeps, changes, round, rests}

-- ---- one outcome, one count

-- a rule changes the blocks, or it does not
not_both : {P : List (List ℕ) → Type 0} {S H : List Block} → Hull P S S → Hull P S H → (H ≡ S → ⊥) → ⊥
not_both h g d = d (one_hull g h)

-- where a round has changed nothing so far, the rules before rule k leave the blocks as they are
abbrev pub Kept : (ℕ → List (List ℕ) → Type 0) → List Block → ℕ → Bool → Type 0
Kept P S k c = c ≡ false → (j : ℕ) → j < k → Hull (P j) S S

pub one_kept : (P : ℕ → List (List ℕ) → Type 0) (S : List Block) (k : ℕ) (c : Bool) → Kept P S k c → Hull (P k) S S → Kept P S (suc k) c
one_kept P S k c f h e j l = ⊎_elim (λ b. f e j b) (λ b. let at : k ≡ j = omega arith in subst (λ (i : ℕ). Hull (P i) S S) at h) (lt_or_le j k)

module _ {n : ℕ} {P : ℕ → List (List ℕ) → Type 0} where
  pub walk_one : {S : List Block} {k : ℕ} {c : Bool} {o u : Outcome} {m l : ℕ} → Rounds n P S k c o m → Rounds n P S k c u l → (o ≡ u) × (m ≡ l)
  walk_one (stops a x) (stops b y) = (refl, refl)
  walk_one (stops a x) (keeps b h w) = absurd (hull_or_none h x)
  walk_one (stops a x) (changes b h d w) = absurd (hull_or_none h x)
  walk_one (stops a x) (round e w) = absurd (omega arith)
  walk_one (stops a x) (rests e) = absurd (omega arith)
  walk_one (keeps a h w) (stops b y) = absurd (hull_or_none h y)
  walk_one (keeps a h w) (keeps b g v) = let r = walk_one w v in (r.0, ap suc r.1)
  walk_one (keeps a h w) (changes b g d v) = absurd (not_both h g d)
  walk_one (keeps a h w) (round e v) = absurd (omega arith)
  walk_one (keeps a h w) (rests e) = absurd (omega arith)
  walk_one (changes a h d w) (stops b y) = absurd (hull_or_none h y)
  walk_one (changes a h d w) (keeps b g v) = absurd (not_both g h d)
  walk_one {k} {u} {l = suc l} (changes a h d w) (changes b g q v) =
      let r = walk_one w (subst (λ (S : List Block). Rounds n P S (suc k) true u l) (one_hull g h) v) in (r.0, ap suc r.1)
  walk_one (changes a h d w) (round e v) = absurd (omega arith)
  walk_one (changes a h d w) (rests e) = absurd (omega arith)
  walk_one (round e w) (stops b y) = absurd (omega arith)
  walk_one (round e w) (keeps b g v) = absurd (omega arith)
  walk_one (round e w) (changes b g q v) = absurd (omega arith)
  walk_one (round e w) (round f v) = walk_one w v
  walk_one (rests e) (stops b y) = absurd (omega arith)
  walk_one (rests e) (keeps b g v) = absurd (omega arith)
  walk_one (rests e) (changes b g q v) = absurd (omega arith)
  walk_one (rests e) (rests f) = (refl, refl)

-- ---- books of the same rules

pub among : (counts rules others : List ℕ) → AllIn rules others → Among (rule_count rules) (rule_of counts rules) (rule_count others) (rule_of counts others)
among counts rules others a = record {
  each = λ j l. let x = a.each j l in
      (x.0, x.1, (λ f p. subst (λ (t : Rule). asks counts t f) x.2 p), (λ f p. subst (λ (t : Rule). asks counts t f) (sym x.2) p));
}
