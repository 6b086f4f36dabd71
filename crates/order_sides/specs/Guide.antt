-- A text compared with a fixed text T, one character at a time, the end as a symbol below every character (003).
-- The state is how many characters of T are matched so far. Both orders, both sides and both flags are one guide each.
use Rattle.std.specs.Prelude.{◌≡◌, List, [], ◌∷◌, ℕ, ◌+◌, ◌<◌}
use Rattle.bases.specs.Base.{Holds, Meets}
use Rattle.shapes.specs.Shape.{Block, text_of}
use Rattle.walks.specs.Walk.{Path}

-- At each state: the characters that T has next, those that put the text on the right side whatever follows,
-- and whether the text may end here (not 0).
pub record Guide : Type 0 where
  pub same : ℕ → ℕ
  pub apart : ℕ → ℕ
  pub ends : ℕ → ℕ

-- From state q the text keeps to the right side.
pub data KeepsTo (G : Guide) : ℕ → List ℕ → Type 0 where
  ends : {q : ℕ} → 0 < G.ends q → KeepsTo G q []
  apart : {q c : ℕ} {t : List ℕ} → Holds (G.apart q) c → KeepsTo G q (c ∷ t)
  same : {q c : ℕ} {t : List ℕ} → Holds (G.same q) c → KeepsTo G (q + 1) t → KeepsTo G q (c ∷ t)

-- As a rule of the runs of one shape.
abbrev pub KeptTo : Guide → List (List ℕ) → Type 0
KeptTo G f = KeepsTo G 0 (text_of f)

-- T itself, read by position: at each exactly the next character.
abbrev pub along : Guide → ℕ → Block
along G q = record { base = G.same q; lower = 1; upper = 1 }

-- From position i, with q characters of T matched, some rest of the shape keeps to the right side. X says what the
-- shape allows up to U.
pub data Clear (X : ℕ → Block) (G : Guide) (U : ℕ) : ℕ → ℕ → Type 0 where
  end : {i q : ℕ} → i ≡ U → 0 < G.ends q → Clear X G U i q
  skip : {i q : ℕ} → (X i).lower ≡ 0 → Clear X G U (i + (X i).upper) q → Clear X G U i q
  apart : {i q : ℕ} → Meets (X i).base (G.apart q) → Clear X G U i q
  same : {i q : ℕ} → Meets (X i).base (G.same q) → Clear X G U (i + 1) (q + 1) → Clear X G U i q

-- Some text matches T so far, from the starts to position i and state q.
abbrev pub Even : (ℕ → Block) → Guide → ℕ → ℕ → Type 0
Even X G i q = Path X (along G) i q 0 0

-- Some text is on the right side already before position i, so that everything from there on is free.
pub record Free (X : ℕ → Block) (G : Guide) (i : ℕ) : Type 0 where
  pub at : ℕ
  pub state : ℕ
  pub before : at < i
  pub reached : Even X G at state
  pub parts : Meets (X at).base (G.apart state)

-- States up to W, where T has ended.
pub record AtEnd (G : Guide) (W : ℕ) : Type 0 where
  pub no_more : (c : ℕ) → Holds (G.same W) c → ⊥
