-- Document 01, "The quick sweep": what the call promises. Lent: two shapes xs and ys, an output; out' is the output as
-- handed back.
use Rattle.std.specs.Prelude.{◌≡◌, List, [], ◌∷◌, ℕ, ◌*◌, ◌≤◌, length, Result, Ok, Err}
use Rattle.answers.specs.Told.{Told, tell, told}
use Rattle.answers.specs.Turns.{Turn, FirstDue, need}
use Rattle.answers.specs.declared.Refusal.{Refusal}
use Rattle.answers.specs.declared.Swept.{Swept}
use Rattle.shapes.specs.Lent.{shape_of}
use Rattle.pairs.specs.Pair.{PairAccepted, of_pair}
use Rattle.sweep_steps.specs.Steps.{sweep_of}
use Rattle.sweep_passes.specs.Read.{swept_of, output_of}
use Rattle.sweeps.specs.Meaning.{Means}

-- The refusals: those of the pair, then 5 for an output shorter than two numbers per block of X.
abbrev pub sweep_turns : List ℕ → List ℕ → ℕ → List Turn
sweep_turns xs ys n = of_pair xs ys ∷ need (2 * length (shape_of xs) ≤ n) (tell 5 0 0) ∷ []

abbrev pub SweepRefused : List ℕ → List ℕ → ℕ → Told → Type 0
SweepRefused xs ys n = FirstDue (sweep_turns xs ys n)

-- An accepted sweep: the answer with its looks, and every cell of the output, are those of the steps; and what they are
-- worth.
pub record SweepDone (xs ys out out' : List ℕ) (r : Swept) : Type 0 where
  pub accepted : PairAccepted xs ys
  pub room : 2 * length (shape_of xs) ≤ length out
  pub answer : r ≡ swept_of (sweep_of (shape_of xs) (shape_of ys))
  pub output : out' ≡ output_of (sweep_of (shape_of xs) (shape_of ys)) out
  pub meaning : Means (shape_of xs) (shape_of ys) r out'

abbrev pub SweepPromise : List ℕ → List ℕ → List ℕ → List ℕ → Result Swept Refusal → Type 0
SweepPromise xs ys out out' (Ok s) = SweepDone xs ys out out' s
SweepPromise xs ys out out' (Err r) = SweepRefused xs ys (length out) (told r) × (out' ≡ out)
