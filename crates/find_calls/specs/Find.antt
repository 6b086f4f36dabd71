-- Document 02, order 7: whether some fitting text lacks the mark, and the least and greatest character index at which
-- its first occurrence starts over the fitting texts that have it, or that none has it.
use Rattle.std.specs.Prelude.{Bool, true, false, List, [], ◌∷◌, ℕ, ◌≤◌, length, Result, Ok, Err}
use Rattle.answers.specs.Told.{Told, told, tell}
use Rattle.answers.specs.Turns.{Turn, FirstDue, need}
use Rattle.answers.specs.declared.Refusal.{Refusal}
use Rattle.answers.specs.declared.Sought.{Sought}
use Rattle.answers.specs.declared.Sought.TheVariants.{Nowhere, InSome, InAll}
use Rattle.shapes.specs.Shape.{Block, Fits}
use Rattle.shapes.specs.Lent.{shape_of, Accepted, of_shape}
use Rattle.find_texts.specs.Occurs.{Lacks, SomeLacks, Indices}

-- what is true of the texts that fit s where this is answered
abbrev pub SoughtIn : List ℕ → List Block → Sought → Type 0
SoughtIn mark s Nowhere = (t : List ℕ) → Fits s t → Lacks mark t
SoughtIn mark s (InSome least greatest) = SomeLacks mark s × Indices mark s least.at greatest.at
SoughtIn mark s (InAll least greatest) = (SomeLacks mark s → ⊥) × Indices mark s least.at greatest.at

-- an accepted shape, and a mark of 0 to 64 bytes
pub record Asked (xs mark : List ℕ) : Type 0 where
  pub accepted : Accepted xs
  pub few : length mark ≤ 64

-- the refusals of the shape, which is text 1; then 13, of text 0 and place 0
abbrev pub find_turns : List ℕ → List ℕ → List Turn
find_turns xs mark = of_shape 1 xs ∷ need (length mark ≤ 64) (tell 13 0 0) ∷ []

abbrev pub FindRefused : List ℕ → List ℕ → Told → Type 0
FindRefused xs mark = FirstDue (find_turns xs mark)

abbrev pub FindPromise : List ℕ → List ℕ → Result Sought Refusal → Type 0
FindPromise xs mark (Ok q) = Asked xs mark × SoughtIn mark (shape_of xs) q
FindPromise xs mark (Err r) = FindRefused xs mark (told r)

-- ---- document 02's values of an answer

-- some fitting text lacks the mark
abbrev pub lacking : Result Sought Refusal → Bool
lacking (Ok Nowhere) = true
lacking (Ok (InSome least greatest)) = true
lacking (Ok (InAll least greatest)) = false
lacking (Err r) = false

-- the least and the greatest index; 0, which is no index, where no fitting text has the mark
abbrev pub least_index : Result Sought Refusal → ℕ
least_index (Ok Nowhere) = 0
least_index (Ok (InSome least greatest)) = least.at
least_index (Ok (InAll least greatest)) = least.at
least_index (Err r) = 0

abbrev pub greatest_index : Result Sought Refusal → ℕ
greatest_index (Ok Nowhere) = 0
greatest_index (Ok (InSome least greatest)) = greatest.at
greatest_index (Ok (InAll least greatest)) = greatest.at
greatest_index (Err r) = 0
