-- Document 02, order 2: what the call for the earliest common text promises. Lent: two shapes xs and ys, work, one
-- output; with ' they are as handed back.
use Rattle.std.specs.Prelude.{◌≡◌, List, [], ◌∷◌, ℕ, ◌≤◌, length, Option, Some, None, Result, Ok, Err}
use Rattle.answers.specs.Told.{Told, tell, told}
use Rattle.answers.specs.Turns.{Turn, FirstDue, in_turn, TurnChecked, need}
use Rattle.answers.specs.declared.Refusal.{Refusal}
use Rattle.pairs.specs.Pair.{PairAccepted, of_pair}
use Rattle.pairs.specs.Narrow.{Cleared}
use Rattle.common_texts.specs.Earliest.{TextShown, NothingShown}

-- The room that it wants: w bytes of work, a bytes of output.
pub record ShowRoom (w a : ℕ) : Type 0 where
  pub work : 63001 ≤ w
  pub output : 250 ≤ a

-- The refusals of a pair, then 4, then 5; there is one output, so that it has no number.
abbrev pub show_turns : List ℕ → List ℕ → ℕ → ℕ → List Turn
show_turns xs ys w a = of_pair xs ys ∷ need (63001 ≤ w) (tell 4 0 0) ∷ need (250 ≤ a) (tell 5 0 0) ∷ []

abbrev pub ShowRefused : List ℕ → List ℕ → ℕ → ℕ → Told → Type 0
ShowRefused xs ys w a = FirstDue (show_turns xs ys w a)

abbrev pub of_showing : List ℕ → List ℕ → ℕ → ℕ → Turn
of_showing xs ys w a = in_turn (PairAccepted xs ys × ShowRoom w a) (show_turns xs ys w a)

abbrev pub ShowChecked : List ℕ → List ℕ → ℕ → ℕ → Result Unit Refusal → Type 0
ShowChecked xs ys w a = TurnChecked (of_showing xs ys w a)

pub record ShowAccepts (xs ys work out work' : List ℕ) : Type 0 where
  pub shapes : PairAccepted xs ys
  pub room : ShowRoom (length work) (length out)
  pub work_cleared : Cleared work work'

abbrev pub ShowPromise : List ℕ → List ℕ → List ℕ → List ℕ → List ℕ → List ℕ → Result (Option ℕ) Refusal → Type 0
ShowPromise xs ys work out work' out' (Ok (Some n)) = ShowAccepts xs ys work out work' × TextShown xs ys out out' n
ShowPromise xs ys work out work' out' (Ok None) = ShowAccepts xs ys work out work' × NothingShown xs ys out out'
ShowPromise xs ys work out work' out' (Err r) = ShowRefused xs ys (length work) (length out) (told r) × (work' ≡ work) × (out' ≡ out)
