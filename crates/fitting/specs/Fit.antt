-- Document 01, "Shapes and fillings": whether a text fits a shape. Yes exactly if some filling has that text.
use Rattle.std.specs.Prelude.{List, ℕ, Result, Ok, Err}
use Rattle.answers.specs.Told.{told}
use Rattle.answers.specs.declared.Fit.{Fit}
use Rattle.answers.specs.declared.Refusal.{Refusal}
use Rattle.answers.specs.declared.Fit.TheVariants.{Fits as does, Unfit}
use Rattle.shapes.specs.Shape.{Fits}
use Rattle.shapes.specs.Lent.{shape_of, Accepted, ShapeRefused}

abbrev pub FitPromise : List ℕ → List ℕ → Result Fit Refusal → Type 0
FitPromise xs t (Ok does) = Accepted xs × Fits (shape_of xs) t
FitPromise xs t (Ok Unfit) = Accepted xs × (Fits (shape_of xs) t → ⊥)
FitPromise xs t (Err r) = ShapeRefused 1 xs (told r)
