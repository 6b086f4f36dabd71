-- What reading the input into a buffer answers.
use Rattle.std.specs.Prelude.{◌≡◌, List, ℕ, ◌≤◌, take, Option, Some, None}
use Rattle.io.specs.Counts.{IsPrefixLen}

-- as many bytes as the buffer can have
abbrev pub ReadInto : List ℕ → Option ℕ → Type 0
ReadInto buffer (Some n) = IsPrefixLen n buffer
ReadInto buffer None = Unit {0}

-- one read more behind the first k bytes, which were read before: these stay, and the count goes on from k
pub record Further (buffer : List ℕ) (k : ℕ) (buffer' : List ℕ) (n : ℕ) : Type 0 where
  pub stays : take k buffer' ≡ take k buffer
  pub on : k ≤ n
  pub within : IsPrefixLen n buffer'

abbrev pub ReadMore : List ℕ → ℕ → List ℕ → Option ℕ → Type 0
ReadMore buffer k buffer' (Some n) = Further buffer k buffer' n
ReadMore buffer k buffer' None = Unit {0}
