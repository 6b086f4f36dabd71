-- Document 02, order 9: equality in which A to Z count as a to z, on both sides.
use Rattle.std.specs.Prelude.{◌≡◌, true, false, List, map, ℕ, ◌+◌, leb}

-- What a character counts as: the codes 65 to 90, A to Z, as 97 to 122, a to z; every other code as itself (document
-- 02, order 9).
unfoldable pub lowered : ℕ → ℕ
lowered c = elim (leb 65 c) [ true ↦ elim (leb c 90) [ true ↦ c + 32 | false ↦ c ] | false ↦ c ]

-- Equal once every character of both is lowered (document 02, order 9). Blanks count, wherever they stand.
abbrev pub AnyCase : List ℕ → List ℕ → Type 0
AnyCase t u = map lowered t ≡ map lowered u
