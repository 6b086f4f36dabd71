-- Whether two bases share a character, by a test that computes: bit by bit, as long as the first base has bits.
use Rattle.std.specs.Prelude.{Bool, true, false, ℕ, zero, suc, ◌+◌, ◌/◌, ◌%◌, eqb}

-- `a` for true, `b` for false
abbrev pub pick : {A : Type 0} → Bool → A → A → A
pick true a b = a
pick false a b = b

-- n bounds how many bits are looked at
unfoldable pub shares_within : ℕ → ℕ → ℕ → Bool
shares_within zero a b = false
shares_within (suc n) a b = elim (eqb a 0) [ true ↦ false | false ↦ elim (eqb (a % 2 + b % 2) 2) [ true ↦ true | false ↦ shares_within n (a / 2) (b / 2) ] ]

unfoldable pub shares : ℕ → ℕ → Bool
shares a b = shares_within a a b
