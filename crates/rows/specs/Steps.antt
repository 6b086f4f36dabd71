-- What steps between numbers lead to. Step number j, of k, goes from each number of A j to each of B j.
use Rattle.std.specs.Prelude.{◌≡◌, ◌⊎◌, ℕ, ◌≤◌, ◌<◌}
use Rattle.bases.specs.Base.{Holds, Meets}
use Rattle.sets.specs.Set.{Exactly}

-- From q some steps lead to a number of s.
pub data Leads (A B : ℕ → ℕ) (k s : ℕ) : ℕ → Type 0 where
  there : {q : ℕ} → Holds s q → Leads A B k s q
  step : {q e : ℕ} (j : ℕ) → j < k → Holds (A j) q → Holds (B j) e → Leads A B k s e → Leads A B k s q

-- From q one step leads to a number of s.
pub record Lands (A B : ℕ → ℕ) (k s q : ℕ) : Type 0 where
  pub number : ℕ
  pub below : number < k
  pub from : Holds (A number) q
  pub to : Meets (B number) s

-- Each step goes from the numbers of its zone, without a gap from the first up to the end, to that end; and each zone
-- lies past the ends of the steps before.
pub record InTurn (Z E : ℕ → ℕ) (k : ℕ) : Type 0 where
  pub first : ℕ → ℕ
  pub end : ℕ → ℕ
  pub zone : (j : ℕ) → j < k → Exactly (Z j) (λ q. (first j ≤ q) × (q < end j))
  pub stop : (j : ℕ) → j < k → Exactly (E j) (λ q. q ≡ end j)
  pub order : (i j : ℕ) → i < j → j < k → (end i ≤ first j) × (end i ≤ end j)

-- One of k sets holds q.
pub record AnyOf (A : ℕ → ℕ) (k q : ℕ) : Type 0 where
  pub number : ℕ
  pub below : number < k
  pub held : Holds (A number) q

-- The zones of all steps in one set, and their ends.
pub record Together (Z E : ℕ → ℕ) (k free stops : ℕ) : Type 0 where
  pub free_is : Exactly free (AnyOf Z k)
  pub stops_is : Exactly stops (AnyOf E k)

-- r is all that is reached from s; all from which s is reached, with from where a step lands in it: whichever steps
-- these are the zones and ends of.
pub record ClosedForth (free stops s r : ℕ) : Type 0 where
  pub holds : (Z E : ℕ → ℕ) (k : ℕ) → InTurn Z E k → Together Z E k free stops → Exactly r (Leads E Z k s)

pub record ClosedBack (free stops s r quit : ℕ) : Type 0 where
  pub holds : (Z E : ℕ → ℕ) (k : ℕ) → InTurn Z E k → Together Z E k free stops → Exactly r (Leads Z E k s) × Exactly quit (Lands Z E k r)

-- Of k pairs of sets one meets s with its first and holds q in its second.
pub record MeetsOne (A B : ℕ → ℕ) (k s q : ℕ) : Type 0 where
  pub number : ℕ
  pub below : number < k
  pub meets : Meets s (A number)
  pub held : Holds (B number) q

-- The set t is added to each of the first k sets whose row, among S, meets s.
pub record Given (S : ℕ → ℕ) (k s t : ℕ) (A B : ℕ → ℕ) : Type 0 where
  pub so : (j c : ℕ) → j < k → Holds (B j) c → Holds (A j) c ⊎ (Meets s (S j) × Holds t c)
  pub kept : (j c : ℕ) → j < k → Holds (A j) c → Holds (B j) c
  pub more : (j c : ℕ) → j < k → Meets s (S j) → Holds t c → Holds (B j) c
