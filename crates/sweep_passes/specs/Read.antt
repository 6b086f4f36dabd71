-- How the code's numbers are read: places kept two numbers to a block, and the answer as it is handed back.
use Rattle.std.specs.Prelude.{List, [], ◌∷◌, ◌++◌, ℕ, length, get_or, drop}
use Rattle.answers.specs.declared.Swept.{Swept}
use Rattle.shapes.specs.Shape.{Block}
use Rattle.sweep_steps.specs.Places.{at}
use Rattle.sweep_steps.specs.Steps.{Held, Found, places, cannot, numbers}

-- the blocks of a shape, each with the place that stands for it
unfoldable pub held_in : List Block → List ℕ → List Held
held_in [] l = []
held_in (b ∷ x) l = record { block = b; place = at (get_or l 0 0) (get_or l 1 0) } ∷ held_in x (drop 2 l)

-- the answer handed back, of one pass or of both
abbrev pub swept_of : Found → Swept
swept_of (places ps k) = Swept.Places k
swept_of (cannot k) = Swept.Cannot k

-- the output: two numbers for each place, the rest as on entry; on cannot, all of it
abbrev pub output_of : Found → List ℕ → List ℕ
output_of (places ps k) entry = numbers ps ++ drop (length (numbers ps)) entry
output_of (cannot k) entry = entry
