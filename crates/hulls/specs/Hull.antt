-- Document 01, "Narrowing", for every relation.
-- The shapes of all texts are laid end to end as one list of blocks S. A choice of one filling for each text is then
-- one filling of S. A rule, whatever it relates, is a property P of the runs chosen.
use Rattle.std.specs.Prelude.{◌≡◌, ℕ, ◌<◌, length, get_or, take, drop}
use mathlib.Core.List.{List, [], Memᴰ}
use Rattle.bases.specs.Base.{Holds}
use Rattle.shapes.specs.Shape.{Block, no_block, Run, Filling, text_of}

-- The relation R of two texts as a rule: the first text's shape has n blocks.
abbrev pub Pairs : (List ℕ → List ℕ → Type 0) → ℕ → List (List ℕ) → Type 0
Pairs R n f = R (text_of (take n f)) (text_of (drop n f))

-- The choice f satisfies the rule.
pub record Satisfies (P : List (List ℕ) → Type 0) (S : List Block) (f : List (List ℕ)) : Type 0 where
  pub filling : Filling S f
  pub rule : P f

-- No choice satisfies it.
pub record None (P : List (List ℕ) → Type 0) (S : List Block) : Type 0 where
  pub never : (f : List (List ℕ)) → Satisfies P S f → ⊥

-- Some choice does.
pub record Some (P : List (List ℕ) → Type 0) (S : List Block) : Type 0 where
  pub runs : List (List ℕ)
  pub satisfies : Satisfies P S runs

-- Some choice that satisfies the rule gives block number i, from 0, the run r.
pub record Taken (P : List (List ℕ) → Type 0) (S : List Block) (i : ℕ) (r : List ℕ) : Type 0 where
  pub runs : List (List ℕ)
  pub satisfies : Satisfies P S runs
  pub run : get_or runs i [] ≡ r

-- The character c stands in the run r.
abbrev pub Occurs : ℕ → List ℕ → Type 0
Occurs c r = Memᴰ c r

-- b is the block of the runs that have R: its base is the characters that they hold, its lower and upper their least
-- and greatest length. So each of them is a run of b, each character of b stands in one of them, and one is as short,
-- one as long as b allows.
pub record Tight (R : List ℕ → Type 0) (b : Block) : Type 0 where
  pub covers : (r : List ℕ) → R r → Run b r
  pub held : (c : ℕ) → Holds b.base c → (r : List ℕ) × R r × Occurs c r
  pub shortest : (r : List ℕ) × R r × (length r ≡ b.lower)
  pub longest : (r : List ℕ) × R r × (length r ≡ b.upper)

-- Some choice satisfies the rule, and H are the new blocks, as many as S: block i of H is the block of the runs that
-- block i of S takes in such choices.
pub record Hull (P : List (List ℕ) → Type 0) (S H : List Block) : Type 0 where
  pub size : length H ≡ length S
  pub some : Some P S
  pub tight : (i : ℕ) → i < length S → Tight (Taken P S i) (get_or H i no_block)

-- What narrowing answers: none if no choice satisfies the rule, else the new blocks.
pub data Outcome : Type 0 where
  none : Outcome
  shapes : List Block → Outcome

pub data NarrowsTo (P : List (List ℕ) → Type 0) (S : List Block) : Outcome → Type 0 where
  to_none : None P S → NarrowsTo P S none
  to_shapes : {H : List Block} → Hull P S H → NarrowsTo P S (shapes H)
