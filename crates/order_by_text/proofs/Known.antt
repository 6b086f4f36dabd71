-- What was gathered, and what is free, is all that is to be known. Assumes nothing.
use mathlib.Core.Path.{◌≡◌}
use mathlib.Core.List.{List}
use Prim.Native.Nat.{ℕ, ◌+◌, ◌/◌, ◌≤◌, ◌<◌}
use lib.Bits.{bit_and, bit_or}
use Rattle.bases.specs.Base.{Empty, Least}
use lib.ListN.{length}
use Rattle.sets.specs.declared.Set.{Set}
use Rattle.sets.specs.Set.{set_of, Exactly}
use Rattle.rows.specs.declared.LaidBlock.{LaidBlock}
use Rattle.rows.specs.Row.{row_in, slot_in}
use Rattle.rows.specs.Steps.{Given}
use Rattle.order_rows.proofs.Known.{known_even, known_free}
use Rattle.order_states.specs.declared.Gathered.{Gathered}
use Rattle.order_by_text.specs.Freed.{Freed}

-- ---- where no text parts, and where the first that does is at f

pub freed_none : {y : List LaidBlock} {u free : ℕ} {g : Gathered} {chars : List Set} → Empty (set_of g.parted) → Freed y u free g chars chars (set_of g.quit) (set_of g.moved)
freed_none n = record { holds = λ X G Z E zones all t. known_even t.pass t.limit t.brought n }

pub freed_from : {y : List LaidBlock} {u f d free a h quit moved all : ℕ} {g : Gathered} {chars chars' : List Set} → Least (set_of g.parted) f → Exactly d (λ i. (f + 1 ≤ i) × (i < u + 1))
    → a ≡ bit_and d free → quit ≡ bit_or (set_of g.quit) a
    → h ≡ d / 2 → moved ≡ bit_or (set_of g.moved) h → Exactly all (λ c. c < 256) → Given (slot_in y) (length y) d all (row_in chars) (row_in chars') → Freed y u free g chars chars' quit moved
freed_from first x ea eq eh em xa v = record { holds = λ X G Z E zones all t. known_free t.pass t.limit t.brought first x zones all ea eq eh em xa v }
