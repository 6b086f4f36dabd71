-- Document 01, "A book and its run": a book of n rules, P k for k < n, applied in any order, each on the blocks so far.
use Rattle.std.specs.Prelude.{List, [], ◌∷◌, ℕ, ◌≤◌, ◌<◌, take, drop}
use Rattle.bases.specs.Base.{Holds}
use Rattle.shapes.specs.Shape.{Block}
use Rattle.hulls.specs.Hull.{None, Hull, Outcome, none, shapes}

-- The n runs from number m, of the choice f: those of a text that has the n blocks from number m.
abbrev pub part : ℕ → ℕ → List (List ℕ) → List (List ℕ)
part m n f = take n (drop m f)

-- The block h has no more room than b.
pub record Inside (h b : Block) : Type 0 where
  pub base : (c : ℕ) → Holds h.base c → Holds b.base c
  pub lower : b.lower ≤ h.lower
  pub upper : h.upper ≤ b.upper

-- Block by block no more room.
pub data Within : List Block → List Block → Type 0 where
  end : Within [] []
  next : {h b : Block} {H S : List Block} → Inside h b → Within H S → Within (h ∷ H) (b ∷ S)

-- Each rule of the book leaves S as it is.
pub record Stable (n : ℕ) (P : ℕ → List (List ℕ) → Type 0) (S : List Block) : Type 0 where
  pub each : (k : ℕ) → k < n → Hull (P k) S S

-- A run from S ends with an outcome: it applies one rule after the other, in any order, each as often as it likes.
-- It stops at a none, and with blocks only where no rule would change them.
pub data Runs (n : ℕ) (P : ℕ → List (List ℕ) → Type 0) : List Block → Outcome → Type 0 where
  stop_none : {S : List Block} (k : ℕ) → k < n → None (P k) S → Runs n P S none
  stop : {S : List Block} → Stable n P S → Runs n P S (shapes S)
  apply : {S H : List Block} {o : Outcome} (k : ℕ) → k < n → Hull (P k) S H → Runs n P H o → Runs n P S o

-- H is the widest stable list of blocks within S.
pub record Widest (n : ℕ) (P : ℕ → List (List ℕ) → Type 0) (S H : List Block) : Type 0 where
  pub stable : Stable n P H
  pub within : Within H S
  pub widest : (Z : List Block) → Stable n P Z → Within Z S → Within Z H

-- Each rule of the book n, P is a rule of the book m, Q, at whatever place there.
pub record Among (n : ℕ) (P : ℕ → List (List ℕ) → Type 0) (m : ℕ) (Q : ℕ → List (List ℕ) → Type 0) : Type 0 where
  pub each : (k : ℕ) → k < n → (j : ℕ) × (j < m) × ((f : List (List ℕ)) → P k f → Q j f) × ((f : List (List ℕ)) → Q j f → P k f)
