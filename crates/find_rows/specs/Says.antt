-- What the rows of a search say: row q has the lengths of the texts that lack the mark and have q of it matched.
use Rattle.std.specs.Prelude.{◌≡◌, Bool, true, List, ◌⊎◌, ℕ, ◌-◌, ◌≤◌, ◌<◌, length}
use Rattle.bases.specs.Base.{Holds}
use Rattle.sets.specs.Set.{Exactly}
use Rattle.sets.specs.declared.Set.{Set}
use Rattle.rows.specs.Row.{row_in}
use Rattle.find_texts.specs.Match.{SomeKept, Struck, Stepped}

-- Of the texts that have T.
pub record RowsSay (mark : List ℕ) (T : List ℕ → Type 0) (rows : List Set) : Type 0 where
  pub each : (q : ℕ) → q < length mark → Exactly (row_in rows q) (SomeKept mark T q)

-- The lengths at which the mark is complete for the first time.
pub record HitsSay (mark : List ℕ) (T : List ℕ → Type 0) (hits : ℕ) : Type 0 where
  pub all : Exactly hits (Struck mark T)

-- Row q has some length.
pub record SomeIn (rows : List Set) (q : ℕ) : Type 0 where
  pub number : ℕ
  pub held : Holds (row_in rows q) number

-- The states whose row has some.
abbrev pub LiveIn : List ℕ → List Set → ℕ → Type 0
LiveIn mark rows q = (q < length mark) × SomeIn rows q

-- From the lengths in the rows one character of the base leads to r matched and k characters.
pub record Arrived (mark : List ℕ) (base : ℕ) (rows : List Set) (r k : ℕ) : Type 0 where
  pub small : k < 256
  pub step : Stepped mark base (λ q j. Holds (row_in rows q) j) r k

-- Row r after that character: what arrives, and where the run may end what was there.
abbrev pub MovedTo : List ℕ → ℕ → Bool → List Set → ℕ → ℕ → Type 0
MovedTo mark base keep was r k = Arrived mark base was r k ⊎ ((keep ≡ true) × Holds (row_in was r) k)

pub record Moved (mark : List ℕ) (base : ℕ) (keep : Bool) (was rows : List Set) : Type 0 where
  pub each : (r : ℕ) → r < length mark → Exactly (row_in rows r) (MovedTo mark base keep was r)

-- On the way there the rows from t on are still as they were, and `last` is row t - 1 as it was.
pub record Underway (was rows : List Set) (t last : ℕ) : Type 0 where
  pub before : 0 < t → last ≡ row_in was (t - 1)
  pub left : (q : ℕ) → t ≤ q → row_in rows q ≡ row_in was q
