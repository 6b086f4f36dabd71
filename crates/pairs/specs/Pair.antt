-- Document 01, "Numbers given back": the refusals of a pair, in their order: those of the first shape; those of the
-- second; 4; 5.
use Rattle.std.specs.Prelude.{List, [], ◌∷◌, ℕ, ◌≤◌, length, Result}
use Rattle.answers.specs.Told.{Told, tell}
use Rattle.answers.specs.Turns.{Turn, FirstDue, in_turn, TurnChecked, need}
use Rattle.answers.specs.declared.Refusal.{Refusal}
use Rattle.shapes.specs.Lent.{Accepted, of_shape}

-- both are shapes
pub record PairAccepted (xs ys : List ℕ) : Type 0 where
  pub first : Accepted xs
  pub second : Accepted ys

-- those of the first shape, then of the second
abbrev pub pair_turns : List ℕ → List ℕ → List Turn
pair_turns xs ys = of_shape 1 xs ∷ of_shape 2 ys ∷ []

abbrev pub PairRefused : List ℕ → List ℕ → Told → Type 0
PairRefused xs ys = FirstDue (pair_turns xs ys)

abbrev pub of_pair : List ℕ → List ℕ → Turn
of_pair xs ys = in_turn (PairAccepted xs ys) (pair_turns xs ys)

abbrev pub PairChecked : List ℕ → List ℕ → Result Unit Refusal → Type 0
PairChecked xs ys = TurnChecked (of_pair xs ys)

-- the room that narrowing wants: w bytes of work, a and b numbers of output
pub record Room (xs ys : List ℕ) (w a b : ℕ) : Type 0 where
  pub work : 63001 ≤ w
  pub first : length xs ≤ a
  pub second : length ys ≤ b

-- then 4, then 5, the first output before the second
abbrev pub narrow_turns : List ℕ → List ℕ → ℕ → ℕ → ℕ → List Turn
narrow_turns xs ys w a b =
    of_pair xs ys ∷ need (63001 ≤ w) (tell 4 0 0) ∷ need (length xs ≤ a) (tell 5 1 0) ∷ need (length ys ≤ b) (tell 5 2 0) ∷ []

abbrev pub NarrowRefused : List ℕ → List ℕ → ℕ → ℕ → ℕ → Told → Type 0
NarrowRefused xs ys w a b = FirstDue (narrow_turns xs ys w a b)

abbrev pub of_narrowing : List ℕ → List ℕ → ℕ → ℕ → ℕ → Turn
of_narrowing xs ys w a b = in_turn (PairAccepted xs ys × Room xs ys w a b) (narrow_turns xs ys w a b)

abbrev pub NarrowChecked : List ℕ → List ℕ → ℕ → ℕ → ℕ → Result Unit Refusal → Type 0
NarrowChecked xs ys w a b = TurnChecked (of_narrowing xs ys w a b)
