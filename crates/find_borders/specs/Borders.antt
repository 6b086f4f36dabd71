-- The words that tell where the mark has each of its characters, and with which of its own starts each of its starts
-- ends.
use Rattle.std.specs.Prelude.{◌≡◌, List, ◌⊎◌, ℕ, ◌+◌, ◌≤◌, ◌<◌, length, get_or, take, Bool, true, false}
use Rattle.bases.specs.Base.{Holds}
use Rattle.sets.specs.Set.{Exactly}
use Rattle.find_texts.specs.Match.{EndsWith}

-- Of the numbers below n, w has those of which a test answers true, and has not those of which it answers false.
pub record Collected (test : ℕ → Bool → Type 0) (n w : ℕ) : Type 0 where
  pub so : (e : ℕ) → Holds w e → (e < n) × test e true
  pub not_so : (e : ℕ) → e < n → (Holds w e → ⊥) → test e false

-- A mark that is searched for by states: of 1 to 64 characters.
pub record ShortMark (mark : List ℕ) : Type 0 where
  pub some : 0 < length mark
  pub few : length mark ≤ 64

-- The mark has the character c at j.
abbrev pub SameAt : List ℕ → ℕ → ℕ → Type 0
SameAt mark c j = (j < length mark) × (get_or mark j 0 ≡ c)

-- Of the first n characters of the mark, each word has the places.
abbrev pub Sames : List ℕ → ℕ → List ℕ → Type 0
Sames mark n words = (r : ℕ) → r < n → Exactly (get_or words r 0) (SameAt mark (get_or mark r 0))

-- The first q characters of the mark end with its first r.
pub record Border (mark : List ℕ) (q r : ℕ) : Type 0 where
  pub few : r ≤ q
  pub ends : EndsWith (take r mark) (take q mark)

-- Of the first n states, each word has its borders.
abbrev pub Borders : List ℕ → ℕ → List ℕ → Type 0
Borders mark n words = (q : ℕ) → q < n → Exactly (get_or words q 0) (Border mark q)

-- 0, or one more than a number that both hold, in a word.
abbrev pub UpOne : ℕ → ℕ → ℕ → Type 0
UpOne w s e = (e ≡ 0) ⊎ ((e < 64) × ((d : ℕ) × (Holds w d × Holds s d × (e ≡ d + 1))))
