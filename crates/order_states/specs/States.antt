-- The states of an order's second pass, one at a time from the last to the first.
use Rattle.std.specs.Prelude.{◌≡◌, List, ℕ, ◌+◌, ◌≤◌, ◌<◌}
use Rattle.std.specs.Int.Bits.{bit_or}
use Rattle.sets.specs.declared.Set.{Set}
use Rattle.sets.specs.Set.{set_of, Exactly}
use Rattle.shapes.specs.Shape.{Block}
use Rattle.rows.specs.Row.{row_in}
use Rattle.row_paths.specs.Rows.{Zones}
use Rattle.order_sides.specs.Guide.{Guide, Even}
use Rattle.order_rows.specs.Rows.{Right, Sorted, PassAlong}
use Rattle.order_states.specs.declared.Sorts.{Sorts}
use Rattle.order_states.specs.declared.Gathered.{Gathered}

-- What the code carries, as the numbers that it stands for.
abbrev pub PassOf : (ℕ → Block) → Guide → ℕ → ℕ → ℕ → Gathered → Type 0
PassOf X G U lo hi g = PassAlong X G U lo hi (set_of g.clear) (set_of g.quit) (set_of g.moved) (set_of g.parted)

abbrev pub SortedAs : (ℕ → Block) → Guide → ℕ → ℕ → Sorts → Type 0
SortedAs X G U q s = Sorted X G U q (set_of s.same) (set_of s.apart) (set_of s.over)

-- Later states and earlier ones together.
pub record Joins (later earlier r : Gathered) : Type 0 where
  pub clear : set_of r.clear ≡ set_of earlier.clear
  pub quit : set_of r.quit ≡ bit_or (set_of later.quit) (set_of earlier.quit)
  pub moved : set_of r.moved ≡ bit_or (set_of later.moved) (set_of earlier.moved)
  pub parted : set_of r.parted ≡ bit_or (set_of later.parted) (set_of earlier.parted)

-- For each shape whose ends of runs are the steps from Z to E, and each guide: one state, and the states from lo on and
-- before hi.
pub record OneState (Z E : ℕ → ℕ) (k : ℕ) (s : Sorts) (row clear : ℕ) (r : Gathered) : Type 0 where
  pub holds : (X : ℕ → Block) (G : Guide) (U q : ℕ) → Zones X Z E k → SortedAs X G U q s → Exactly row (λ i. Even X G i q) → Right X G U (q + 1) clear
      → PassOf X G U q (q + 1) r

pub record States (Z E : ℕ → ℕ) (k : ℕ) (rows : List Set) (s : Sorts) (lo hi clear : ℕ) (r : Gathered) : Type 0 where
  pub holds : (X : ℕ → Block) (G : Guide) (U : ℕ) → Zones X Z E k → ((q : ℕ) → lo ≤ q → q < hi → SortedAs X G U q s)
      → ((q : ℕ) → lo ≤ q → q < hi → Exactly (row_in rows q) (λ i. Even X G i q)) → Right X G U hi clear → PassOf X G U lo hi r
