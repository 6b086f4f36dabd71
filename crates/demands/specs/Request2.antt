-- Document 02, order 2, a field for each sentence: the earliest common
-- text. To the other calls the same shapes are lent, and other memory.
use Rattle.answers.specs.declared.Refusal.{Refusal}
use Rattle.std.specs.Prelude.{◌≡◌, List, [], ◌∷◌, ◌↔◌, ℕ, ◌≤◌, length, take, drop, Result, Ok, Option, Some, None}
use Rattle.answers.specs.declared.Narrowed.{Narrowed}
use Rattle.shapes.specs.Shape.{Fits}
use Rattle.shapes.specs.Lent.{shape_of}
use Rattle.texts.specs.Order.{AtMost}
use Rattle.pairs.specs.Narrow.{Cleared}
use Rattle.common_calls.specs.Common.{ShowRoom}
use Rattle.demands.specs.Call.{least_text, Two, NarrowMemory, new_shape, HasRoom, narrow_exact, CommonMemory, common_text_call}

-- The text fits both shapes.
abbrev pub FitsBoth : Two → List ℕ → Type 0
FitsBoth s t = Fits (shape_of s.x) t × Fits (shape_of s.y) t

-- A shape and itself.
abbrev pub twice : List ℕ → Two
twice xs = record { x = xs; y = xs }

-- Where a text of n characters is shown.
pub record WhereShown (s : Two) (m m' : CommonMemory) (n : ℕ) : Type 0 where
  -- "Give the earliest common text in our order, if there is one"
  pub common : FitsBoth s (take n m'.out)
  pub earliest : (u : List ℕ) → FitsBoth s u → AtMost (take n m'.out) u
  -- "its first character, then the least text of what remains"
  pub first_character : (c : ℕ) (t : List ℕ) → take n m'.out ≡ c ∷ t → (d : ℕ) (u : List ℕ) → FitsBoth s (d ∷ u) → c ≤ d
  pub remains : (c : ℕ) (t : List ℕ) → take n m'.out ≡ c ∷ t → (u : List ℕ) → FitsBoth s (c ∷ u) → AtMost t u
  -- "The empty text comes first if both shapes take it."
  pub empty_first : FitsBoth s [] → n ≡ 0
  -- "It and its length are given as for the least text": at the start of the
  -- output, of which the rest stays, and never over the 250 bytes asked for
  pub given : (length (take n m'.out) ≡ n) × (n ≤ 250) × (drop n m'.out ≡ drop n m.out)
  -- "work is zeroed as elsewhere"
  pub zeroed : Cleared m.work m'.work

-- Where there is none.
pub record WhereNone (s : Two) (m m' : CommonMemory) : Type 0 where
  pub none : (t : List ℕ) → FitsBoth s t → ⊥
  -- "on none nothing"
  pub nothing : m'.out ≡ m.out
  pub zeroed : Cleared m.work m'.work

pub record Request2 : Type 0 where
  pub shown : {s : Two} {m m' : CommonMemory} (n : ℕ) → common_text_call.Promise s m m' (Ok (Some n)) → WhereShown s m m' n
  pub none : {s : Two} {m m' : CommonMemory} → common_text_call.Promise s m m' (Ok None) → WhereNone s m m'
  -- "'None' exactly as in narrowing under equality", whatever memory is lent to the two calls, as long as there is room
  pub none_exactly : (s : Two) (m m' : CommonMemory) (n n' : NarrowMemory) (r : Result (Option ℕ) Refusal) (u : Result Narrowed Refusal)
      → common_text_call.Promise s m m' r → narrow_exact.Promise s n n' u
      → ShowRoom (length m.work) (length m.out) → HasRoom s n → (r ≡ (Ok None)) ↔ (u ≡ (Ok Narrowed.None))
  -- what is shown is an example of what narrowing leaves: it fits both narrowed shapes
  pub fits_narrowed : {s : Two} {m m' : CommonMemory} {n n' : NarrowMemory} (k : ℕ)
      → common_text_call.Promise s m m' (Ok (Some k)) → narrow_exact.Promise s n n' (Ok Narrowed.Narrow)
      → Fits (new_shape s.x n'.out_x) (take k m'.out) × Fits (new_shape s.y n'.out_y) (take k m'.out)
  -- a shape and itself: there is a common text, and the earliest is the least text
  pub same_least : {xs out out' : List ℕ} {m m' : CommonMemory} (n k : ℕ) → common_text_call.Promise (twice xs) m m' (Ok (Some n))
      → least_text.Promise xs out out' (Ok k) → (n ≡ k) × (take n m'.out ≡ take k out')
  pub same_some : {xs : List ℕ} {m m' : CommonMemory} → common_text_call.Promise (twice xs) m m' (Ok None) → ⊥
