-- What an inner function of a tray's pair answers: the quick sweep on two shapes, whatever room its places have.
use Rattle.std.specs.Prelude.{◌≡◌, List, ℕ, Result, Ok, Err}
use Rattle.answers.specs.Told.{told}
use Rattle.answers.specs.declared.Refusal.{Refusal}
use Rattle.answers.specs.declared.Swept.{Swept}
use Rattle.shapes.specs.Lent.{shape_of}
use Rattle.pairs.specs.Pair.{PairAccepted, PairRefused}
use Rattle.sweep_steps.specs.Steps.{sweep_of}
use Rattle.sweep_passes.specs.Read.{swept_of}

-- the refusal of a shape, the first's before the second's, or what the steps find
abbrev pub SweptAlone : List ℕ → List ℕ → Result Swept Refusal → Type 0
SweptAlone xs ys (Ok s) = PairAccepted xs ys × (s ≡ swept_of (sweep_of (shape_of xs) (shape_of ys)))
SweptAlone xs ys (Err q) = PairRefused xs ys (told q)
