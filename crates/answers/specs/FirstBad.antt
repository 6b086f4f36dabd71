-- The first of n items that lacks P: blocks of a shape, texts and rules of a book. Items count from 0, their numbers
-- from 1.
use Rattle.std.specs.Prelude.{◌≡◌, ℕ, ◌+◌, ◌<◌}
use Rattle.answers.specs.Told.{Told}
use Rattle.answers.specs.Turns.{Turn}

pub record FirstBad (n : ℕ) (P : ℕ → Type 0) (i : ℕ) : Type 0 where
  pub before : ℕ
  pub place : i ≡ before + 1
  pub within : before < n
  pub good : (j : ℕ) → j < before → P j
  pub bad : P before → ⊥

-- Item number i is the first that lacks P, and t is what is told of it, R saying what is told of which item.
pub record FirstRefused (n : ℕ) (P : ℕ → Type 0) (R : ℕ → Told → Type 0) (i : ℕ) (t : Told) : Type 0 where
  pub first : FirstBad n P i
  pub refused : R first.before t

-- Items that are turns, tried one by one, are one turn; Good says that each of the n is good.
abbrev pub one_by_one : Type 0 → ℕ → (ℕ → Turn) → Turn
one_by_one Good n item = record { good = Good; due = λ t. (i : ℕ) × FirstRefused n (λ j. (item j).good) (λ j. (item j).due) i t }
