-- The ways between the states of a search, as the words and rows that the code keeps.
use Rattle.std.specs.Prelude.{◌≡◌, List, [], ◌∷◌, ◌++◌, ℕ, ◌+◌, ◌≤◌, ◌<◌, length, get_or, take}
use Rattle.bases.specs.Base.{Holds}
use Rattle.sets.specs.Set.{set_of, Exactly}
use Rattle.sets.specs.declared.Set.{Set}
use Rattle.rows.specs.Row.{row_in}
use Rattle.find_texts.specs.Match.{Matched, StateGoes}
use Rattle.find_borders.specs.Borders.{Border}
use Rattle.find_ways.specs.declared.Ways.{Ways}

-- Character r of the mark leads from q to r + 1.
abbrev pub EnterAt : List ℕ → ℕ → ℕ → Type 0
EnterAt mark r q = (q < length mark) × Matched mark (take q mark ++ (get_or mark r 0 ∷ [])) (r + 1)

-- And q lies above r: it leads back, or stays.
abbrev pub FallAt : List ℕ → ℕ → ℕ → Type 0
FallAt mark r q = (r < q) × EnterAt mark r q

abbrev pub FallWords : List ℕ → ℕ → List ℕ → Type 0
FallWords mark n words = (r : ℕ) → r < n → Exactly (get_or words r 0) (FallAt mark r)

-- r is the greatest number of w below q.
pub record GreatestBelow (w q r : ℕ) : Type 0 where
  pub held : Holds w r
  pub below : r < q
  pub greatest : (d : ℕ) → Holds w d → d < q → d ≤ r

-- c leads from q to a state above 0.
pub record Continued (mark : List ℕ) (q c : ℕ) : Type 0 where
  pub number : ℕ
  pub border : Border mark q number
  pub char : get_or mark number 0 ≡ c

abbrev pub ContinuedRows : List ℕ → ℕ → List Set → Type 0
ContinuedRows mark n rows = (q : ℕ) → q < n → Exactly (row_in rows q) (Continued mark q)

-- The base has a character that s has not.
pub record Outside (base s : ℕ) : Type 0 where
  pub char : ℕ
  pub held : Holds base char
  pub not_in : Holds s char → ⊥

-- The states from which some character of the base leads to 0.
abbrev pub Resets : List ℕ → ℕ → ℕ → Type 0
Resets mark base w = Exactly w (λ q. (q < length mark) × StateGoes mark base q 0)

-- The numbers of the mark's characters that the base holds.
abbrev pub Allowed : List ℕ → ℕ → ℕ → Type 0
Allowed mark base w = Exactly w (λ r. (r < length mark) × Holds base (get_or mark r 0))

-- Both, of one base.
pub record WaysOf (mark : List ℕ) (w : Ways) : Type 0 where
  pub resets : Resets mark (set_of w.base) w.resets
  pub allowed : Allowed mark (set_of w.base) w.allowed
