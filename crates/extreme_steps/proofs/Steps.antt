-- The steps of one block, as the code takes them. Assumes nothing.
use mathlib.Core.Path.{◌≡◌, refl, sym, ap, ap₂, ◌∙◌}
use mathlib.Core.Bool.{Bool, true, false}
use mathlib.Core.List.{List, [], ◌++◌}
use Prim.Native.Nat.{ℕ, zero, suc, ◌+◌, ◌≤◌, ◌<◌}
use native.Mathlib.Omega.{arith}
use lib.Dec.{leb, ltb, leb-zero, leb-suc-suc}
use lib.ListN.{drop, replicate}
use borrow.Author.Tests.{le-ltb}
use Rattle.bases.specs.Base.{Empty}
use Rattle.shapes.specs.Shape.{Block, Sound, text_of, block_count}
use Rattle.shapes.specs.Lent.{shape_of, block_at}
use Rattle.shapes.proofs.Lent.{shape_from, none_left}
use Rattle.extreme_steps.specs.declared.Direction.{Direction}
use Rattle.extreme_steps.specs.declared.Direction.TheVariants.{Least, Greatest}
use Rattle.extreme_steps.specs.declared.Successor.{Successor}
use Rattle.extreme_steps.specs.declared.Successor.TheVariants.{End, Above, Below}
use Rattle.extreme_steps.specs.Code.{char_in, codes_below, on_taking, text_from}
use Rattle.extreme_steps.specs.Steps.{char_of, goes_first, takes_of, onwards, unless, taken, after, successor, runs, extreme}

-- ---- which character goes first, by the codes below the successor

pub goes_least : (c : ℕ) (s : Successor) → ltb c (codes_below s) ≡ goes_first Least c s
goes_least c End = le-ltb c 0 (omega arith)
goes_least c (Above e) = let more : e + 1 ≡ suc e = omega arith in ap (ltb c) more ∙ leb-suc-suc c e
goes_least c (Below e) = refl

pub goes_greatest : (c : ℕ) (s : Successor) → leb (codes_below s) c ≡ goes_first Greatest c s
goes_greatest c End = leb-zero c
goes_greatest c (Above e) = let more : e + 1 ≡ suc e = omega arith in ap (λ (n : ℕ). leb n c) more
goes_greatest c (Below e) = refl

-- ---- what a block takes, and where it takes nothing

none_counted : (f : Bool) (b : Block) → Sound b → b.upper ≡ 0 → 0 ≡ takes_of f b
none_counted true b ok z = sym z
none_counted false b ok z = let h = ok.ordered in omega arith

-- no sound block takes more than 250
pub counted_small : (f : Bool) (b : Block) → Sound b → takes_of f b ≤ 250
counted_small true b ok = ok.small
counted_small false b ok = let h = ok.ordered in let g = ok.small in omega arith

unless_zero : (k : ℕ) (s n : Successor) → k ≡ 0 → s ≡ unless k s n
unless_zero zero s n e = refl
unless_zero (suc k) s n e = absurd (omega arith)

pub on_taking_lem : (k n m : ℕ) → (k ≡ 0 → ⊥) → m ≡ on_taking k n m
on_taking_lem zero n m h = absurd (h refl)
on_taking_lem (suc k) n m h = refl

unless_codes : (k : ℕ) (s n : Successor) → on_taking k (codes_below s) (codes_below n) ≡ codes_below (unless k s n)
unless_codes zero s n = refl
unless_codes (suc k) s n = refl

-- a block of some upper has a character
pub has_character : (b : Block) → Sound b → (b.upper ≡ 0 → ⊥) → Empty b.base → ⊥
has_character b ok n e = n (ok.filled e)

-- the successor tells the character that was taken
char_onward : (d : Direction) (f : Bool) (c : ℕ) → char_in (onwards d f c) ≡ c
char_onward Least true c = refl
char_onward Least false c = refl
char_onward Greatest true c = refl
char_onward Greatest false c = refl

-- ---- what a block takes where s follows it, and the successor before it

-- a block of upper 0 takes nothing
module _ (d : Direction) (b : Block) (s : Successor) (ok : Sound b) (z : b.upper ≡ 0) where
  bare : 0 ≡ taken d b s
  bare = none_counted (goes_first d (char_of d b.base) s) b ok z

  pub bare_run : [] ≡ replicate (taken d b s) (char_of d b.base)
  bare_run = ap (λ (n : ℕ). replicate n (char_of d b.base)) bare

  pub bare_after : s ≡ after d b s
  bare_after = unless_zero (taken d b s) s _ (sym bare)

-- of any other, c is the character, f whether that goes first, and n the count
pub record Chosen (d : Direction) (b : Block) (s : Successor) (c n : ℕ) (f : Bool) : Type 0 where
  pub character : c ≡ char_of d b.base
  pub first : f ≡ goes_first d c s
  pub counted : n ≡ takes_of f b

module _ {d : Direction} {b : Block} {s : Successor} {c n : ℕ} {f : Bool} (k : Chosen d b s c n f) where
  goes : f ≡ goes_first d (char_of d b.base) s
  goes = k.first ∙ ap (λ (x : ℕ). goes_first d x s) k.character

  count : n ≡ taken d b s
  count = k.counted ∙ ap (λ (x : Bool). takes_of x b) goes

  pub chosen_run : replicate n (char_in (onwards d f c)) ≡ replicate (taken d b s) (char_of d b.base)
  chosen_run = ap₂ (λ (x y : ℕ). replicate x y) count (char_onward d f c ∙ k.character)

  pub chosen_codes : on_taking n (codes_below s) (codes_below (onwards d f c)) ≡ codes_below (after d b s)
  chosen_codes =
      unless_codes n s (onwards d f c)
      ∙ ap₂ (λ (m : ℕ) (t : Successor). codes_below (unless m s t)) count (ap₂ (λ (x : Bool) (y : ℕ). onwards d x y) goes k.character)

-- ---- the blocks of a lent shape, from the last to the first

module _ (d : Direction) (xs : List ℕ) where
  pub successor_end : End ≡ successor d (drop (block_count xs) (shape_of xs))
  unfolding successor
  successor_end = sym (ap (successor d) (none_left xs))

  pub text_end : text_from d xs (block_count xs) ≡ []
  unfolding runs text_of
  text_end = ap (extreme d) (none_left xs)

  -- one step: block i, from 0, is b
  module _ (i : ℕ) (b : Block) (here : i < block_count xs) (at : b ≡ block_at xs i) where
    pub step_codes : (n : ℕ) → n ≡ codes_below (after d b (successor d (drop (i + 1) (shape_of xs)))) → n ≡ codes_below (successor d (drop i (shape_of xs)))
    unfolding successor
    step_codes n e =
        e ∙ ap (λ (x : Block). codes_below (after d x (successor d (drop (i + 1) (shape_of xs))))) at
        ∙ sym (ap (λ (x : List Block). codes_below (successor d x)) (shape_from xs i here))

    pub step_text : (r : List ℕ) → r ≡ replicate (taken d b (successor d (drop (i + 1) (shape_of xs)))) (char_of d b.base) → r ++ text_from d xs (i + 1) ≡ text_from d xs i
    unfolding runs text_of
    step_text r e =
        ap (λ (l : List ℕ). l ++ text_from d xs (i + 1)) (e ∙ ap (λ (x : Block). replicate (taken d x (successor d (drop (i + 1) (shape_of xs)))) (char_of d x.base)) at)
        ∙ sym (ap (extreme d) (shape_from xs i here))
