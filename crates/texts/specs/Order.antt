-- Document 01, "Shapes and fillings": texts are ordered by code; the end comes before every character (003).
use Rattle.std.specs.Prelude.{List, [], ◌∷◌, ℕ, ◌<◌}

-- the first text is at most the second
pub data AtMost : List ℕ → List ℕ → Type 0 where
  ends : {u : List ℕ} → AtMost [] u
  less : {c d : ℕ} {t u : List ℕ} → c < d → AtMost (c ∷ t) (d ∷ u)
  same : {c : ℕ} {t u : List ℕ} → AtMost t u → AtMost (c ∷ t) (c ∷ u)

-- the first text is before the second
pub data Before : List ℕ → List ℕ → Type 0 where
  ends : {d : ℕ} {u : List ℕ} → Before [] (d ∷ u)
  less : {c d : ℕ} {t u : List ℕ} → c < d → Before (c ∷ t) (d ∷ u)
  same : {c : ℕ} {t u : List ℕ} → Before t u → Before (c ∷ t) (c ∷ u)
