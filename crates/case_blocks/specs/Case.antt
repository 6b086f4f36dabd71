-- Document 02, order 9: blocks with both cases of each of their letters, and the letters of what narrowing leaves, in
-- the cases entered.
use Rattle.std.specs.Prelude.{◌≡◌, List, [], ◌∷◌, ℕ, ◌<◌, length, get_or}
use Rattle.std.specs.Int.Bits.{bit_and}
use Rattle.bases.specs.Base.{Holds}
use Rattle.sets.specs.Set.{Exactly}
use Rattle.texts.specs.Case.{lowered}
use Rattle.letters.specs.Case.{SomeCase}
use Rattle.shapes.specs.Shape.{Block, no_block}

-- w is the block b with both cases of each of its letters.
pub record Widened (b w : Block) : Type 0 where
  pub base : Exactly w.base (SomeCase b.base)
  pub lower : w.lower ≡ b.lower
  pub upper : w.upper ≡ b.upper

-- So are the blocks W those of S, one by one.
pub data Wide : List Block → List Block → Type 0 where
  end : Wide [] []
  next : {b w : Block} {S W : List Block} → Widened b w → Wide S W → Wide (b ∷ S) (w ∷ W)

-- The characters that b and j both have, and j's counts.
abbrev pub cut_block : Block → Block → Block
cut_block b j = record { base = bit_and b.base j.base; lower = j.lower; upper = j.upper }

-- So are the blocks H cut from those of S and J, one by one.
pub data Cuts : List Block → List Block → List Block → Type 0 where
  end : Cuts [] [] []
  next : {b j : Block} {S J H : List Block} → Cuts S J H → Cuts (b ∷ S) (j ∷ J) (cut_block b j ∷ H)

-- H is left of the blocks S, and a letter that is left in one case is left in every case in which its block of S has it
-- (document 02, order 9: "The narrowed bases keep the letters in the cases the shape entered them with").
abbrev pub CasesStay : List Block → List Block → Type 0
CasesStay S H = (i : ℕ) → i < length S → (c d : ℕ) → Holds (get_or H i no_block).base c → Holds (get_or S i no_block).base d → lowered d ≡ lowered c
    → Holds (get_or H i no_block).base d
