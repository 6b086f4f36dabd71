-- A shape laid out in rows of positions, a row to a block: its slots, the positions at which its run may end, and the
-- position where it then is.
use Rattle.std.specs.Prelude.{◌≡◌, List, ℕ, ◌+◌, ◌≤◌, ◌<◌, length, get_or, take}
use Rattle.sets.specs.Set.{Exactly}
use Rattle.shapes.specs.Shape.{Block, no_block, total}
use Rattle.rows.specs.declared.LaidBlock.{LaidBlock}
use Rattle.rows.specs.Row.{zone_in, end_in, slot_in}

-- Where block j starts and where it ends.
abbrev pub start : List Block → ℕ → ℕ
start S j = total (take j S)

abbrev pub end : List Block → ℕ → ℕ
end S j = total (take j S) + (get_or S j no_block).upper

-- The rows of the first n blocks.
pub record LayTo (S : List Block) (n : ℕ) (layout : List LaidBlock) : Type 0 where
  pub zone : (j : ℕ) → j < n → Exactly (zone_in layout j) (λ q. (start S j + (get_or S j no_block).lower ≤ q) × (q < end S j))
  pub stop : (j : ℕ) → j < n → Exactly (end_in layout j) (λ q. q ≡ end S j)
  pub slot : (j : ℕ) → j < n → Exactly (slot_in layout j) (λ q. (start S j ≤ q) × (q < end S j))

-- The rows of all its blocks.
abbrev pub Lay : List Block → List LaidBlock → Type 0
Lay S layout = LayTo S (length S) layout
