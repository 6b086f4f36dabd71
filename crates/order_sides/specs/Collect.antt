-- What the texts on the right side give to a block b that starts at position p.
use Rattle.std.specs.Prelude.{◌≡◌, ℕ, ◌+◌, ◌≤◌, ◌<◌}
use Rattle.bases.specs.Base.{Holds, Meets}
use Rattle.shapes.specs.Shape.{Block}
use Rattle.order_sides.specs.Guide.{Guide, Clear, Even, Free}

-- Some such text has the character c in the run: it is free already, or parts from T there, or stays with T.
pub data SidePasses (X : ℕ → Block) (G : Guide) (U p : ℕ) (b : Block) (c : ℕ) : Type 0 where
  free : (k : ℕ) → k < b.upper → Holds b.base c → Free X G (p + k) → SidePasses X G U p b c
  parts : (k q : ℕ) → k < b.upper → Holds b.base c → Even X G (p + k) q → Holds (G.apart q) c → SidePasses X G U p b c
  stays : (k q : ℕ) → k < b.upper → Holds b.base c → Even X G (p + k) q → Holds (G.same q) c → Clear X G U (p + k + 1) (q + 1) → SidePasses X G U p b c

-- Some such text has a run of length n: it is free by its end, or the run is empty or its last character stays with T.
pub data RunEndsAt (X : ℕ → Block) (G : Guide) (U p : ℕ) (b : Block) (n : ℕ) : Type 0 where
  free : b.lower ≤ n → n ≤ b.upper → Free X G (p + n) → RunEndsAt X G U p b n
  empty : (q : ℕ) → b.lower ≡ 0 → n ≡ 0 → Even X G p q → Clear X G U (p + b.upper) q → RunEndsAt X G U p b n
  stays : (k q : ℕ) → n ≡ k + 1 → k < b.upper → b.lower ≤ n → Even X G (p + k) q → Meets b.base (G.same q) → Clear X G U (p + b.upper) (q + 1) → RunEndsAt X G U p b n

-- h is the block of those runs.
pub record SideCollected (X : ℕ → Block) (G : Guide) (U p : ℕ) (b h : Block) : Type 0 where
  pub held : (c : ℕ) → Holds h.base c → SidePasses X G U p b c
  pub all_held : (c : ℕ) → SidePasses X G U p b c → Holds h.base c
  pub shortest : RunEndsAt X G U p b h.lower
  pub not_shorter : (n : ℕ) → RunEndsAt X G U p b n → h.lower ≤ n
  pub longest : RunEndsAt X G U p b h.upper
  pub not_longer : (n : ℕ) → RunEndsAt X G U p b n → n ≤ h.upper
