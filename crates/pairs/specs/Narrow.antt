-- Document 01, "Narrowing": what narrowing under the relation R promises. Lent: two shapes xs and ys, work, two outputs
-- ox and oy; with ' they are as handed back.
use Rattle.std.specs.Prelude.{◌≡◌, Bool, true, false, List, ◌++◌, ℕ, length, drop, replicate, Result, Ok, Err}
use Rattle.answers.specs.Told.{told}
use Rattle.answers.specs.declared.Refusal.{Refusal}
use Rattle.answers.specs.declared.Narrowed.{Narrowed}
use Rattle.answers.specs.declared.Narrowed.TheVariants.{Narrow, None as no_pair}
use Rattle.shapes.specs.Shape.{Block}
use Rattle.shapes.specs.Lent.{shape_of, words_of}
use Rattle.hulls.specs.Hull.{Pairs, None, Hull}
use Rattle.pairs.specs.Pair.{PairAccepted, Room, NarrowRefused}

-- After an accepted call the first 63,001 bytes of work are 0 and the rest untouched.
unfoldable pub cleared : ℕ → List ℕ → List ℕ
cleared n work = replicate n 0 ++ drop n work

abbrev pub Cleared : List ℕ → List ℕ → Type 0
Cleared work work' = work' ≡ cleared 63001 work

-- The new shapes are the hull of the pairs of fillings that satisfy R; they stand at the start of the outputs, the
-- entries past them stay.
pub record Narrows (R : List ℕ → List ℕ → Type 0) (xs ys ox oy ox' oy' : List ℕ) : Type 0 where
  pub first : List Block
  pub second : List Block
  pub size : length first ≡ length (shape_of xs)
  pub hull : Hull (Pairs R (length (shape_of xs))) (shape_of xs ++ shape_of ys) (first ++ second)
  pub first_output : ox' ≡ words_of first ++ drop (length xs) ox
  pub second_output : oy' ≡ words_of second ++ drop (length ys) oy

-- No pair of fillings satisfies R; the outputs stay whole.
pub record NoPair (R : List ℕ → List ℕ → Type 0) (xs ys ox oy ox' oy' : List ℕ) : Type 0 where
  pub none : None (Pairs R (length (shape_of xs))) (shape_of xs ++ shape_of ys)
  pub first_output : ox' ≡ ox
  pub second_output : oy' ≡ oy

-- What the work of narrowing two accepted shapes answers, true exactly if there is a pair.
pub record NarrowAnswer (R : List ℕ → List ℕ → Type 0) (xs ys ox oy ox' oy' : List ℕ) (r : Bool) : Type 0 where
  pub both : r ≡ true → Narrows R xs ys ox oy ox' oy'
  pub neither : r ≡ false → NoPair R xs ys ox oy ox' oy'

pub record Accepts (xs ys work ox oy work' : List ℕ) : Type 0 where
  pub shapes : PairAccepted xs ys
  pub room : Room xs ys (length work) (length ox) (length oy)
  pub work_cleared : Cleared work work'

pub record Untouched (xs ys work ox oy work' ox' oy' : List ℕ) : Type 0 where
  pub work_kept : work' ≡ work
  pub first_kept : ox' ≡ ox
  pub second_kept : oy' ≡ oy

abbrev pub NarrowPromise : (List ℕ → List ℕ → Type 0) → List ℕ → List ℕ → List ℕ → List ℕ → List ℕ → List ℕ → List ℕ → List ℕ → Result Narrowed Refusal → Type 0
NarrowPromise R xs ys work ox oy work' ox' oy' (Ok Narrow) = Accepts xs ys work ox oy work' × Narrows R xs ys ox oy ox' oy'
NarrowPromise R xs ys work ox oy work' ox' oy' (Ok no_pair) = Accepts xs ys work ox oy work' × NoPair R xs ys ox oy ox' oy'
NarrowPromise R xs ys work ox oy work' ox' oy' (Err r) =
    NarrowRefused xs ys (length work) (length ox) (length oy) (told r) × Untouched xs ys work ox oy work' ox' oy'
