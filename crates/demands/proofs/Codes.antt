-- A shape whose one text is one character, whichever of the 256: it is accepted, and every call meets that text.
-- Assumes nothing.
use Rattle.answers.specs.declared.Refusal.{Refusal}
use Rattle.std.specs.Prelude.{Result, Ok, Err, Option, Some, None}
use mathlib.Core.Path.{◌≡◌, refl, sym, ap, ◌∙◌, subst}
use mathlib.Core.Bool.{Bool, true, false}
use mathlib.Core.List.{List, [], ◌∷◌, ◌++◌, append-nil}
use Prim.Native.Nat.{ℕ, ◌^◌, ◌≤◌, ◌<◌}
use native.Mathlib.Omega.{arith}
use lib.ListN.{length, take, drop}
use lib.Pow.{pow-lt}
use lib.Seq.{take_at}
use Rattle.answers.specs.declared.Fit.{Fit}
use Rattle.answers.specs.declared.Sought.{Sought}
use Rattle.plain.specs.All.{All}
use Rattle.plain.specs.All.All.{more}
use Rattle.bases.specs.Base.{Holds, Empty}
use Rattle.sets.proofs.Exact.{one_exactly}
use Rattle.shapes.specs.Shape.{Block, Sound, Run, Filling, done, fill, text_of, Fits, total}
use Rattle.shapes.specs.Lent.{Numbers, shape_of, Accepted}
use Rattle.shapes.proofs.Numbers.{words_length, shape_words}
use Rattle.shapes.proofs.Refused.{shape_not}
use Rattle.laying.proofs.Shapes.{words_bounded}
use Rattle.extreme_steps.specs.declared.Direction.{Direction}
use Rattle.extremes.specs.Extreme.{ExtremePromise}
use Rattle.find_texts.specs.Occurs.{OccursAt, SomeFirst}
use Rattle.find_texts.proofs.Occur.{occurs_within}
use Rattle.find_calls.specs.Find.{Asked, lacking, least_index, greatest_index}
use Rattle.find_calls.proofs.Values.{lacks, least_there, greatest_there, none_has}
use Rattle.dashed.specs.Promises.{FitsShape, FindMark}
use Rattle.demands.specs.Call.{CommonMemory, common_text_call}
use Rattle.demands.specs.Request10.{alone}
use Rattle.demands.proofs.Refusals as refusals
use Rattle.demands.proofs.Demands.{written, meant}

module _ (c : ℕ) where
  block : Block
  block = record { base = 2 ^ c; lower = 1; upper = 1 }

  held : Holds (2 ^ c) c
  held = (one_exactly c).has c refl

  shape_is : shape_of (alone c) ≡ block ∷ []
  unfolding block
  shape_is = shape_words (block ∷ [])

  -- its one text
  run : (r : List ℕ) → Run block r → r ≡ c ∷ []
  unfolding block
  run [] r = absurd (let e = r.enough in omega arith)
  run (x ∷ []) r = go r.held
    where
      go : All (Holds (2 ^ c)) (x ∷ []) → x ∷ [] ≡ c ∷ []
      go (more h g) = ap (λ (y : ℕ). y ∷ []) ((one_exactly c).so x h)
  run (x ∷ (y ∷ r)) k = absurd (let e = k.bounded in omega arith)

  only : (t : List ℕ) → Fits (shape_of (alone c)) t → t ≡ c ∷ []
  unfolding text_of
  only t f = go (subst (λ (S : List Block). Fits S t) shape_is f)
    where
      filled : {f : List (List ℕ)} → Filling (block ∷ []) f → text_of f ≡ c ∷ []
      filled (fill {r = r} k done) = append-nil r ∙ run r k

      go : Fits (block ∷ []) t → t ≡ c ∷ []
      go f = sym f.joined ∙ filled f.filling

  fits : Fits (shape_of (alone c)) (c ∷ [])
  unfolding text_of block
  fits = subst (λ (S : List Block). Fits S (c ∷ [])) (sym shape_is)
      (record { runs = (c ∷ []) ∷ []; filling = fill (record { held = more held All.none; enough = omega arith; bounded = omega arith }) done; joined = refl })

  sound : All Sound (block ∷ [])
  unfolding block Empty
  sound =
      more {a = block} (record { ordered = omega arith; small = omega arith; filled = λ e. absurd (e c held); bare = λ (z : ◌≡◌ {A = ℕ} 1 0). absurd (omega arith) }) All.none

  pub alone_lent : c < 256 → Numbers (alone c)
  unfolding block
  alone_lent l = words_bounded (more (pow-lt l) All.none) sound

  accepted : Accepted (alone c)
  unfolding total block
  accepted =
      let long = words_length (block ∷ []) in
      record {
        right = record { whole = omega arith; some = omega arith; few = omega arith };
        sound = subst (All Sound) (sym shape_is) sound;
        short = subst (λ (S : List Block). total S ≤ 250) (sym shape_is) (omega arith);
      }

  pub fits_code : (r : Result Fit Refusal) → FitsShape (alone c) (c ∷ []) r → r ≡ (Ok Fit.Fits)
  fits_code (Ok Fit.Fits) p = refl
  fits_code (Ok Fit.Unfit) p = absurd (p.1 fits)
  fits_code (Err q) p = absurd (shape_not p accepted)

  pub extreme_code : (d : Direction) (out out' : List ℕ) (r : Result ℕ Refusal) → 250 ≤ length out → ExtremePromise d (alone c) out out' r
      → (r ≡ Ok 1) × (take 1 out' ≡ c ∷ [])
  extreme_code d out out' (Ok n) h p =
      let text = only _ (meant d n p).fits in
      let one : n ≡ 1 = p.length_is ∙ ap length (sym (written d n p) ∙ text) in
      (ap Ok one, subst (λ (k : ℕ). take k out' ≡ c ∷ []) one text)
  extreme_code d out out' (Err q) h p = absurd ((refusals.text d).demand.acceptable (accepted, h) q p)

  pub common_code : (m m' : CommonMemory) (r : Result (Option ℕ) Refusal) → 63001 ≤ length m.work → 250 ≤ length m.out
      → common_text_call.Promise (record { x = alone c; y = alone c }) m m' r → (r ≡ Ok (Some 1)) × (take 1 m'.out ≡ c ∷ [])
  common_code m m' (Ok (Some n)) w o p =
      let s = p.1 in
      let text = only s.text s.earliest.fits_first in
      let one : n ≡ 1 = s.length_is ∙ ap length text in
      (ap (λ (k : ℕ). Ok (Some k)) one, ap (take 1) (s.bytes ∙ ap (λ (t : List ℕ). t ++ drop n m.out) text) ∙ take_at (c ∷ []) (drop n m.out) 1 refl)
  common_code m m' (Ok None) w o p = absurd (p.1.nothing.none (c ∷ []) fits fits)
  common_code m m' (Err q) w o p = absurd ((refusals.common_text).demand.acceptable
      (record { first = accepted; second = accepted }, record { work = w; output = o }) q p)

  asked : Asked (alone c) (c ∷ [])
  asked = record { accepted = accepted; few = omega arith }

  occurs : OccursAt (c ∷ []) (c ∷ []) 1
  occurs = record { before = []; after = []; text = refl; index = refl }

  at_one : {i : ℕ} → SomeFirst (c ∷ []) (shape_of (alone c)) i → i ≡ 1
  at_one {i} s = let w = occurs_within (subst (λ (t : List ℕ). OccursAt (c ∷ []) t i) (only s.text s.fits) s.first.there) in let a = w.0 in let b = w.1 in omega arith

  pub mark_code : (r : Result Sought Refusal) → FindMark (alone c) (c ∷ []) r → (lacking r ≡ false) × (least_index r ≡ 1) × (greatest_index r ≡ 1)
  mark_code r p = (none_lacks (lacking r) refl, at_one (least_there asked r p some), at_one (greatest_there asked r p some))
    where
      some : 0 < least_index r
      some = let n : least_index r ≡ 0 → ⊥ = λ e. ((none_has asked r p).0 e (c ∷ []) fits).nowhere 1 occurs in omega arith

      none_lacks : (b : Bool) → lacking r ≡ b → b ≡ false
      none_lacks false e = refl
      none_lacks true e = let s = (lacks asked r p).0 e in absurd (subst (λ (t : List ℕ). OccursAt (c ∷ []) t 1 → ⊥) (only s.text s.fits) (s.lacks.nowhere 1) occurs)
