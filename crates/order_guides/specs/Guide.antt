-- The guide of a fixed text T, in numbers with a bit for each character: after q of its characters.
use Rattle.std.specs.Prelude.{◌≡◌, Bool, true, false, List, ℕ, ◌+◌, ◌-◌, ◌^◌, ◌≤◌, ◌<◌, ltb, length, get_or}
use Rattle.std.specs.Int.Bits.{bit_and, bit_xor}
use Rattle.extreme_steps.specs.declared.Direction.{Direction}
use Rattle.extreme_steps.specs.declared.Direction.TheVariants.{Least, Greatest}
use Rattle.order_sides.specs.Guide.{Guide}

-- All characters below c.
abbrev pub under : ℕ → ℕ
under c = 2 ^ c - 1

-- The characters below c, or those above it.
abbrev pub beyond_of : Direction → ℕ → ℕ
beyond_of Least c = under c
beyond_of Greatest c = bit_xor (under 256) (bit_and (under 256) (under (c + 1)))

-- Where T has ended: no character is below the end, each is above it.
abbrev pub past_of : Direction → ℕ
past_of Least = 0
past_of Greatest = under 256

-- A shorter text is below T; a text that ends where T does is T.
abbrev pub shorter_of : Direction → ℕ
shorter_of Least = 1
shorter_of Greatest = 0

abbrev pub level_of : Bool → ℕ
level_of true = 0
level_of false = 1

unfoldable pub choose : Bool → ℕ → ℕ → ℕ
choose true a b = a
choose false a b = b

-- The character that T has next, those that part from T to the right side, and whether a text may end.
unfoldable pub next_of : List ℕ → ℕ → ℕ
next_of T q = choose (ltb q (length T)) (2 ^ get_or T q 0) 0

unfoldable pub apart_of : Direction → List ℕ → ℕ → ℕ
apart_of d T q = choose (ltb q (length T)) (beyond_of d (get_or T q 0)) (past_of d)

unfoldable pub ends_of : Direction → Bool → List ℕ → ℕ → ℕ
ends_of d strict T q = choose (ltb q (length T)) (shorter_of d) (level_of strict)

abbrev pub guide_of : Direction → Bool → List ℕ → Guide
guide_of d strict T = record { same = next_of T; apart = apart_of d T; ends = ends_of d strict T }

-- From state lo on, before hi, the guide says what it says at the last of them.
pub record Steady (G : Guide) (lo hi : ℕ) : Type 0 where
  pub same : (q : ℕ) → lo ≤ q → q < hi → G.same q ≡ G.same (hi - 1)
  pub apart : (q : ℕ) → lo ≤ q → q < hi → G.apart q ≡ G.apart (hi - 1)
  pub ends : (q : ℕ) → lo ≤ q → q < hi → G.ends q ≡ G.ends (hi - 1)
