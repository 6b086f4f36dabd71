-- Document 02, order 6, a field for each sentence: what least
-- and greatest text hand back, whatever they keep on the way.
use Rattle.std.specs.Prelude.{◌≡◌, List, ℕ, length, take, drop, Result, Ok, Err}
use Rattle.answers.specs.Told.{told}
use Rattle.answers.specs.declared.Refusal.{Refusal}
use Rattle.shapes.specs.Lent.{shape_of}
use Rattle.extreme_steps.specs.declared.Direction.{Direction}
use Rattle.extreme_steps.specs.declared.Direction.TheVariants.{Least, Greatest}
use Rattle.extreme_steps.specs.Steps.{extreme}
use Rattle.extremes.specs.Extreme.{TextRefused}
use Rattle.dashed.specs.Promises.{LeastText, GreatestText}

pub record AsBefore (d : Direction) (Promise : List ℕ → List ℕ → List ℕ → Result ℕ Refusal → Type 0) : Type 0 where
  -- "The same bytes in the same output": at its start, as many as the count says, those of document 01's steps
  pub bytes : {xs out out' : List ℕ} (n : ℕ) → Promise xs out out' (Ok n)
      → (take n out' ≡ extreme d (shape_of xs)) × (n ≡ length (extreme d (shape_of xs)))
  -- "nothing else altered"
  pub rest : {xs out out' : List ℕ} (n : ℕ) → Promise xs out out' (Ok n) → drop n out' ≡ drop n out
  -- "Refusals: none": there are the shape's and 5, and no other
  pub refused : {xs out out' : List ℕ} (q : Refusal) → Promise xs out out' (Err q) → TextRefused xs (length out) (told q)

pub record Request6 : Type 0 where
  pub least : AsBefore Least LeastText
  pub greatest : AsBefore Greatest GreatestText
