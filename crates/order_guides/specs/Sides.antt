-- Which texts are on the right side of a fixed text: at most it (least), or at least it (greatest); if strict, before
-- it, or after it.
use Rattle.std.specs.Prelude.{◌≡◌, Bool, false, List, [], ◌∷◌, ℕ, ◌≤◌, ◌<◌, length, get_or}
use Rattle.extreme_steps.specs.declared.Direction.{Direction}
use Rattle.extreme_steps.specs.declared.Direction.TheVariants.{Least, Greatest}

-- c is on the right side of e.
pub data Beyond : Direction → ℕ → ℕ → Type 0 where
  lower : {c e : ℕ} → c < e → Beyond Least c e
  higher : {c e : ℕ} → e < c → Beyond Greatest c e

-- The first text is on the right side of the second, symbol by symbol, the end below every character.
pub data Side (d : Direction) (strict : Bool) : List ℕ → List ℕ → Type 0 where
  level : strict ≡ false → Side d strict [] []
  shorter : {e : ℕ} {u : List ℕ} → d ≡ Least → Side d strict [] (e ∷ u)
  longer : {c : ℕ} {t : List ℕ} → d ≡ Greatest → Side d strict (c ∷ t) []
  apart : {c e : ℕ} {t u : List ℕ} → Beyond d c e → Side d strict (c ∷ t) (e ∷ u)
  same : {c : ℕ} {t u : List ℕ} → Side d strict t u → Side d strict (c ∷ t) (c ∷ u)

-- After q characters of T: c is the next; c parts from T to the right side; the text may end.
pub record NextIs (T : List ℕ) (q c : ℕ) : Type 0 where
  pub within : q < length T
  pub same : c ≡ get_or T q 0

pub data PartsFrom (d : Direction) (T : List ℕ) (q c : ℕ) : Type 0 where
  beyond : q < length T → Beyond d c (get_or T q 0) → PartsFrom d T q c
  longer : d ≡ Greatest → length T ≤ q → PartsFrom d T q c

pub data MayEnd (d : Direction) (strict : Bool) (T : List ℕ) (q : ℕ) : Type 0 where
  shorter : d ≡ Least → q < length T → MayEnd d strict T q
  level : strict ≡ false → q ≡ length T → MayEnd d strict T q
