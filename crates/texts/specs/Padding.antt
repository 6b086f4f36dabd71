-- Document 02, order 5: padding is not part of a field. Two texts are equal once the blanks at their ends are dropped.
use Rattle.std.specs.Prelude.{◌≡◌, true, false, List, [], ◌∷◌, ◌++◌, ℕ, eqb, replicate}

-- The blank's code (document 02, order 5).
abbrev pub blank : ℕ
blank = 32

-- A character in front of a trimmed text: a blank in front of nothing is dropped too (document 02, order 5).
unfoldable pub put_in_front : ℕ → List ℕ → List ℕ
put_in_front c [] = elim (eqb c blank) [ true ↦ [] | false ↦ c ∷ [] ]
put_in_front c (d ∷ t) = c ∷ (d ∷ t)

-- A text with the blanks at its end dropped (document 02, order 5).
unfoldable pub trimmed : List ℕ → List ℕ
trimmed [] = []
trimmed (c ∷ t) = put_in_front c (trimmed t)

-- Equal once trailing blanks are dropped from both (document 02, order 5).
abbrev pub Padded : List ℕ → List ℕ → Type 0
Padded t u = trimmed t ≡ trimmed u

-- t is u with blanks behind it (document 02, order 5).
pub record BlanksBehind (t u : List ℕ) : Type 0 where
  pub number : ℕ
  pub joined : t ≡ u ++ replicate number blank
