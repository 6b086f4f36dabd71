-- The list l with x laid over it from place m on: what a text's new blocks, or numbers, leave of all.
use Rattle.std.specs.Prelude.{List, ◌++◌, ℕ, ◌+◌, length, take, drop}

abbrev pub replaced : {A : Type 0} → ℕ → List A → List A → List A
replaced m x l = take m l ++ (x ++ drop (m + length x) l)
