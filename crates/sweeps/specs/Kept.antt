-- What the numbers lent for the places hold once both passes are made: the places, where there are some.
use Rattle.std.specs.Prelude.{◌≡◌, List, ℕ, take}
use Rattle.sweep_steps.specs.Steps.{Found, places, numbers}
use Rattle.sweep_steps.specs.declared.Place.{Place}

-- the first n of them
pub record Starts (f : Found) (n : ℕ) (kept : List ℕ) : Type 0 where
  pub stand : (qs : List Place) (k : ℕ) → f ≡ places qs k → take n kept ≡ numbers qs
