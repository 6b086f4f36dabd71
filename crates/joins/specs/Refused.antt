-- Document 02, order 3: the refusals of a join, the text of the shape xs being that of ys followed by that of zs.
use Rattle.std.specs.Prelude.{List, [], ◌∷◌, ℕ, ◌+◌, ◌≤◌, length, Result}
use Rattle.answers.specs.Told.{Told, tell}
use Rattle.answers.specs.Turns.{Turn, FirstDue, in_turn, TurnChecked, need}
use Rattle.answers.specs.declared.Refusal.{Refusal}
use Rattle.shapes.specs.Shape.{total}
use Rattle.shapes.specs.Lent.{shape_of, Accepted, of_shape}

-- what is joined is a line like any other: the uppers of both add to at most 250
abbrev pub Short : List ℕ → List ℕ → Type 0
Short ys zs = total (shape_of ys) + total (shape_of zs) ≤ 250

-- all three are shapes, and the second and the third can be joined
pub record JoinAccepted (xs ys zs : List ℕ) : Type 0 where
  pub first : Accepted xs
  pub second : Accepted ys
  pub third : Accepted zs
  pub short : Short ys zs

-- the room that narrowing wants: w bytes of work; a, b and c numbers of output
pub record JoinRoom (xs ys zs : List ℕ) (w a b c : ℕ) : Type 0 where
  pub work : 63001 ≤ w
  pub first : length xs ≤ a
  pub second : length ys ≤ b
  pub third : length zs ≤ c

-- of three shapes: 12, at no rule; 4; then 5, output by output
abbrev pub rest_turns : List ℕ → List ℕ → List ℕ → ℕ → ℕ → ℕ → ℕ → List Turn
rest_turns xs ys zs w a b c =
    need (Short ys zs) (tell 12 0 0) ∷ need (63001 ≤ w) (tell 4 0 0)
    ∷ need (length xs ≤ a) (tell 5 1 0) ∷ need (length ys ≤ b) (tell 5 2 0) ∷ need (length zs ≤ c) (tell 5 3 0) ∷ []

-- the refusals of the first shape, of the second, of the third; then the rest
abbrev pub join_turns : List ℕ → List ℕ → List ℕ → ℕ → ℕ → ℕ → ℕ → List Turn
join_turns xs ys zs w a b c = of_shape 1 xs ∷ of_shape 2 ys ∷ of_shape 3 zs ∷ rest_turns xs ys zs w a b c

abbrev pub JoinRefused : List ℕ → List ℕ → List ℕ → ℕ → ℕ → ℕ → ℕ → Told → Type 0
JoinRefused xs ys zs w a b c = FirstDue (join_turns xs ys zs w a b c)

abbrev pub of_join : List ℕ → List ℕ → List ℕ → ℕ → ℕ → ℕ → ℕ → Turn
of_join xs ys zs w a b c = in_turn (JoinAccepted xs ys zs × JoinRoom xs ys zs w a b c) (join_turns xs ys zs w a b c)

abbrev pub JoinChecked : List ℕ → List ℕ → List ℕ → ℕ → ℕ → ℕ → ℕ → Result Unit Refusal → Type 0
JoinChecked xs ys zs w a b c = TurnChecked (of_join xs ys zs w a b c)
