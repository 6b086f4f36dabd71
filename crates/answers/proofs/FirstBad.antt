-- There is one first item that lacks P, and none where all have it. Assumes nothing.
use mathlib.Core.Path.{◌≡◌, subst}
use mathlib.Core.Logic.{⊎_elim}
use Prim.Native.Nat.{ℕ, ◌<◌}
use native.Mathlib.Omega.{arith}
use Rattle.answers.specs.Told.{Told}
use Rattle.answers.specs.Turns.{Turn}
use Rattle.answers.proofs.Turns.{OneOf}
use Rattle.plain.proofs.Plain.{lt_or_le}
use Rattle.answers.specs.FirstBad.{FirstBad, FirstRefused, one_by_one}

module _ {n : ℕ} {P : ℕ → Type 0} where
  pub first_bad_one : {i j : ℕ} → FirstBad n P i → FirstBad n P j → i ≡ j
  first_bad_one v w = ⊎_elim
      (λ l. absurd (v.bad (w.good v.before l)))
      (λ l. ⊎_elim (λ m. absurd (w.bad (v.good w.before m))) (λ m. let p = v.place in let q = w.place in omega arith) (lt_or_le w.before v.before))
      (lt_or_le v.before w.before)

  pub first_bad_none : {i : ℕ} → ((j : ℕ) → j < n → P j) → FirstBad n P i → ⊥
  first_bad_none all f = f.bad (all f.before f.within)

  -- where one thing is told of each item, one is told of the first
  pub first_refused_one : {R : ℕ → Told → Type 0} {i j : ℕ} {t u : Told} → ((k : ℕ) → R k t → R k u → t ≡ u) → FirstRefused n P R i t → FirstRefused n P R j u → t ≡ u
  first_refused_one {R} {u = u} one f g =
      let same : g.first.before ≡ f.first.before = let p = f.first.place in let q = g.first.place in let e = first_bad_one f.first g.first in omega arith in
      one f.first.before f.refused (subst (λ (k : ℕ). R k u) same g.refused)

-- as a turn
pub one_by_one_lem : {Good : Type 0} (n : ℕ) (item : ℕ → Turn) → ((j : ℕ) → OneOf (item j)) → (Good → (j : ℕ) → j < n → (item j).good) → OneOf (one_by_one Good n item)
one_by_one_lem n item each all = record {
  one = λ p q. first_refused_one (λ k a b. (each k).one a b) p.1 q.1;
  not = λ p g. first_bad_none (all g) p.1.first;
}
