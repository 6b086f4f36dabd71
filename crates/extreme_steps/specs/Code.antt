-- What the inner functions answer.
use Rattle.std.specs.Prelude.{List, ℕ, zero, suc, ◌+◌, drop, replicate}
use Rattle.shapes.specs.Lent.{shape_of}
use Rattle.extreme_steps.specs.declared.Direction.{Direction}
use Rattle.extreme_steps.specs.declared.Successor.{Successor}
use Rattle.extreme_steps.specs.declared.Successor.TheVariants.{End, Above, Below}
use Rattle.extreme_steps.specs.declared.Choice.{Choice}
use Rattle.extreme_steps.specs.Steps.{extreme}

-- the character that a successor is just above or just below
abbrev pub char_in : Successor → ℕ
char_in End = 0
char_in (Above c) = c
char_in (Below c) = c

-- How many codes lie below a successor: none below the end, those up to c below just above c, those before c below just
-- below c. A character goes first by this alone.
abbrev pub codes_below : Successor → ℕ
codes_below End = 0
codes_below (Above c) = c + 1
codes_below (Below c) = c

-- of two numbers the first where nothing is taken, else the second
abbrev pub on_taking : ℕ → ℕ → ℕ → ℕ
on_taking zero n m = n
on_taking (suc k) n m = m

-- how many lie below the successor once a block has made this choice, where n lay below it before
abbrev pub codes_onward : Choice → ℕ → ℕ
codes_onward k n = on_taking k.count n (codes_below k.successor)

-- the run of a choice: its successor tells the character, since a block that takes nothing has no run
abbrev pub run_of : Choice → List ℕ
run_of k = replicate k.count (char_in k.successor)

-- the text of the blocks from block i, from 0, on
abbrev pub text_from : Direction → List ℕ → ℕ → List ℕ
text_from d xs i = extreme d (drop i (shape_of xs))
