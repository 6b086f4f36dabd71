-- Document 01, "Least and greatest text", step by step from the last block (003 fig. 3).
-- The successor of a block is one of three things: the end, just above a character, or just below it.
use Rattle.std.specs.Prelude.{Bool, true, false, List, [], ◌∷◌, ℕ, zero, suc, leb, ltb, replicate}
use Rattle.bases.specs.Base.{least_of, greatest_of}
use Rattle.shapes.specs.Shape.{Block, text_of}
use Rattle.extreme_steps.specs.declared.Direction.{Direction}
use Rattle.extreme_steps.specs.declared.Direction.TheVariants.{Least, Greatest}
use Rattle.extreme_steps.specs.declared.Successor.{Successor}
use Rattle.extreme_steps.specs.declared.Successor.TheVariants.{End, Above, Below}

-- a block's character: the least of its base, or the greatest
abbrev pub char_of : Direction → ℕ → ℕ
char_of Least b = least_of b
char_of Greatest b = greatest_of b

-- Whether c goes first: it is smaller than the successor (for the least text), or larger (for the greatest).
-- The end is below everything; just above d lies between d and the next code, just below d between the previous code
-- and d.
abbrev pub goes_first : Direction → ℕ → Successor → Bool
goes_first Least c End = false
goes_first Least c (Above d) = leb c d
goes_first Least c (Below d) = ltb c d
goes_first Greatest c End = true
goes_first Greatest c (Above d) = ltb d c
goes_first Greatest c (Below d) = leb d c

-- the count that a block takes: its upper if its character goes first, else its lower
abbrev pub takes_of : Bool → Block → ℕ
takes_of true b = b.upper
takes_of false b = b.lower

-- the successor once c has been taken: as c went first, and as it did not
abbrev pub onwards : Direction → Bool → ℕ → Successor
onwards Least true c = Above c
onwards Least false c = Below c
onwards Greatest true c = Below c
onwards Greatest false c = Above c

-- a block that takes nothing leaves the successor as it is
abbrev pub unless : ℕ → Successor → Successor → Successor
unless zero s n = s
unless (suc k) s n = n

abbrev pub taken : Direction → Block → Successor → ℕ
taken d b s = takes_of (goes_first d (char_of d b.base) s) b

abbrev pub after : Direction → Block → Successor → Successor
after d b s = unless (taken d b s) s (onwards d (goes_first d (char_of d b.base) s) (char_of d b.base))

-- the successor before the blocks of a shape
unfoldable pub successor : Direction → List Block → Successor
successor d [] = End
successor d (b ∷ s) = after d b (successor d s)

-- the runs: each block's character as often as it takes it
unfoldable pub runs : Direction → List Block → List (List ℕ)
unfolding successor
runs d [] = []
runs d (b ∷ s) = replicate (taken d b (successor d s)) (char_of d b.base) ∷ runs d s

-- the least text, or the greatest
abbrev pub extreme : Direction → List Block → List ℕ
extreme d s = text_of (runs d s)
