-- Document 02, order 3: what narrowing a join promises: "all three are narrowed over triples of fillings that satisfy
-- it". Lent: three shapes xs, ys and zs, work, three outputs ox, oy and oz; with ' they are as handed back.
use Rattle.std.specs.Prelude.{◌≡◌, Bool, true, false, List, ◌++◌, ℕ, length, take, drop, Result, Ok, Err}
use Rattle.answers.specs.Told.{told}
use Rattle.answers.specs.declared.Refusal.{Refusal}
use Rattle.answers.specs.declared.Narrowed.{Narrowed}
use Rattle.answers.specs.declared.Narrowed.TheVariants.{Narrow, None as no-triple}
use Rattle.shapes.specs.Shape.{Block, text_of}
use Rattle.shapes.specs.Lent.{shape_of, words_of}
use Rattle.hulls.specs.Hull.{None, Hull}
use Rattle.pairs.specs.Narrow.{Cleared}
use Rattle.joins.specs.Refused.{JoinAccepted, JoinRoom, JoinRefused}

-- A join as a rule: the first text's shape has n blocks, the second's m, and the third's are the rest.
abbrev pub Triples : ℕ → ℕ → List (List ℕ) → Type 0
Triples n m f = text_of (take n f) ≡ text_of (take m (drop n f)) ++ text_of (drop m (drop n f))

-- The new shapes are the hull of the triples of fillings; they stand at the start of the outputs, the entries past them
-- stay.
pub record JoinNarrows (xs ys zs ox oy oz ox' oy' oz' : List ℕ) : Type 0 where
  pub first : List Block
  pub second : List Block
  pub third : List Block
  pub size_first : length first ≡ length (shape_of xs)
  pub size_second : length second ≡ length (shape_of ys)
  pub hull : Hull (Triples (length (shape_of xs)) (length (shape_of ys))) (shape_of xs ++ (shape_of ys ++ shape_of zs)) (first ++ (second ++ third))
  pub first_output : ox' ≡ words_of first ++ drop (length xs) ox
  pub second_output : oy' ≡ words_of second ++ drop (length ys) oy
  pub third_output : oz' ≡ words_of third ++ drop (length zs) oz

-- There is no such triple; the outputs stay whole.
pub record NoTriple (xs ys zs ox oy oz ox' oy' oz' : List ℕ) : Type 0 where
  pub none : None (Triples (length (shape_of xs)) (length (shape_of ys))) (shape_of xs ++ (shape_of ys ++ shape_of zs))
  pub first_output : ox' ≡ ox
  pub second_output : oy' ≡ oy
  pub third_output : oz' ≡ oz

-- What the work of narrowing a join of accepted shapes answers, true exactly if there is a triple.
pub record JoinAnswer (xs ys zs ox oy oz ox' oy' oz' : List ℕ) (r : Bool) : Type 0 where
  pub all : r ≡ true → JoinNarrows xs ys zs ox oy oz ox' oy' oz'
  pub none : r ≡ false → NoTriple xs ys zs ox oy oz ox' oy' oz'

pub record JoinAccepts (xs ys zs work ox oy oz work' : List ℕ) : Type 0 where
  pub shapes : JoinAccepted xs ys zs
  pub room : JoinRoom xs ys zs (length work) (length ox) (length oy) (length oz)
  pub work_cleared : Cleared work work'

pub record JoinUntouched (work ox oy oz work' ox' oy' oz' : List ℕ) : Type 0 where
  pub work_kept : work' ≡ work
  pub first_kept : ox' ≡ ox
  pub second_kept : oy' ≡ oy
  pub third_kept : oz' ≡ oz

abbrev pub JoinPromise : List ℕ → List ℕ → List ℕ → List ℕ → List ℕ → List ℕ → List ℕ → List ℕ → List ℕ → List ℕ → List ℕ → Result Narrowed Refusal → Type 0
JoinPromise xs ys zs work ox oy oz work' ox' oy' oz' (Ok Narrow) = JoinAccepts xs ys zs work ox oy oz work' × JoinNarrows xs ys zs ox oy oz ox' oy' oz'
JoinPromise xs ys zs work ox oy oz work' ox' oy' oz' (Ok no-triple) = JoinAccepts xs ys zs work ox oy oz work' × NoTriple xs ys zs ox oy oz ox' oy' oz'
JoinPromise xs ys zs work ox oy oz work' ox' oy' oz' (Err r) =
    JoinRefused xs ys zs (length work) (length ox) (length oy) (length oz) (told r) × JoinUntouched work ox oy oz work' ox' oy' oz'
