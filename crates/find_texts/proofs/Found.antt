-- What is found of the texts that fit, from the lengths that are kept and those at which the mark is complete. Assumes
-- nothing.
use mathlib.Core.Path.{◌≡◌, refl, sym, ap, ◌∙◌, subst}
use mathlib.Core.List.{List, [], ◌++◌}
use Prim.Native.Nat.{ℕ, ◌+◌, ◌≤◌, ◌<◌}
use native.Mathlib.Omega.{arith}
use lib.ListN.{length, length-append, take}
use lib.Seq.{length-take-le}
use Rattle.shapes.specs.Shape.{Block, Fits}
use Rattle.shapes.proofs.Fits.{fits_none, none_fits}
use Rattle.find_texts.specs.Occurs.{FirstAt, SomeLacks, SomeFirst, Indices}
use Rattle.find_texts.specs.Match.{SomeKept, Struck}
use Rattle.find_texts.specs.Reading.{Begun}
use Rattle.find_texts.proofs.Occur.{first_on, first_cut, occurs_within, completes_some}
use Rattle.find_texts.proofs.State.{ends_none, ends_length, state_of}
use Rattle.find_texts.proofs.Step.{lacking_small}

module _ {mark : List ℕ} {s : List Block} where
  pub struck_first : {k : ℕ} → Struck mark (Begun s) k → (i : ℕ) × SomeFirst mark s i × (i + length mark ≡ k + 1)
  struck_first {k} x =
      let c = x.completes in
      (c.index, record { text = x.text ++ x.is.rest; fits = x.is.fits; first = first_on x.is.rest c.first }, c.last ∙ ap (λ (n : ℕ). n + 1) x.long)

  pub first_struck : {i : ℕ} → SomeFirst mark s i → (k : ℕ) × Struck mark (Begun s) k × (i + length mark ≡ k + 1)
  first_struck {i} x =
      let c = first_cut x.first in
      (length c.front, record { text = c.front; is = record { rest = c.rest; fits = subst (Fits s) c.text x.fits }; long = refl; completes = c.completes }, c.long)

  pub kept_lacks : {q k : ℕ} → SomeKept mark (Fits s) q k → SomeLacks mark s
  kept_lacks x = record { text = x.text; fits = x.is; lacks = x.lacks }

  pub lacks_kept : SomeLacks mark s → (q : ℕ) × (k : ℕ) × (q < length mark) × SomeKept mark (Fits s) q k
  lacks_kept x =
      let m = state_of mark x.text in
      (m.0, length x.text, lacking_small mark x.lacks m.1, record { text = x.text; is = x.fits; long = refl; lacks = x.lacks; matched = m.1 })

  -- the least and the greatest length at which it is complete tell the least and the greatest index
  pub indices : {k l : ℕ} → Struck mark (Begun s) k → Struck mark (Begun s) l → ((j : ℕ) → Struck mark (Begun s) j → k ≤ j) → ((j : ℕ) → Struck mark (Begun s) j → j ≤ l)
      → (i j : ℕ) → i + length mark ≡ k + 1 → j + length mark ≡ l + 1 → Indices mark s i j
  indices {k} {l} x y least greatest i j e f =
      let a = struck_first x in
      let b = struck_first y in
      let a2 = a.2 in
      let b2 = b.2 in
      let ia : a.0 ≡ i = omega arith in
      let ib : b.0 ≡ j = omega arith in
      record {
        at_least = subst (SomeFirst mark s) ia a.1;
        at_greatest = subst (SomeFirst mark s) ib b.1;
        from = λ n z. let p = first_struck z in let u = least p.0 p.1 in let v = p.2 in omega arith;
        to = λ n z. let p = first_struck z in let u = greatest p.0 p.1 in let v = p.2 in omega arith;
      }

-- ---- before anything is read

module _ {mark : List ℕ} where
  pub start_kept : {q k : ℕ} → 0 < length mark → (q ≡ 0) × (k ≡ 0) → SomeKept mark (Fits []) q k
  start_kept {q} {k} h e = subst (λ (n : ℕ). SomeKept mark (Fits []) n k) (sym e.0) (subst (SomeKept mark (Fits []) 0) (sym e.1) (record {
    text = [];
    is = fits_none;
    long = refl;
    lacks = record { nowhere = λ i o. let w = occurs_within o in omega arith };
    matched = record { within = omega arith; ends = ends_none []; longest = λ r l x. let n = ends_length x in short r l n };
  }))
    where
      short : (r : ℕ) → r ≤ length mark → length (take r mark) ≤ 0 → r ≤ 0
      short r l n = let z = length-take-le r mark l in omega arith

  pub kept_start : {q k : ℕ} → SomeKept mark (Fits []) q k → (q ≡ 0) × (k ≡ 0)
  kept_start {q} {k} x =
      let e = none_fits x.is in
      let n = ends_length x.matched.ends in
      let z = length-take-le q mark x.matched.within in
      let l = ap length e in
      let d = x.long in
      (omega arith, omega arith)

  pub none_struck : {k : ℕ} → 0 < length mark → Struck mark (Begun []) k → ⊥
  none_struck {k} h x =
      let n = completes_some h x.completes in
      let e = ap length (none_fits x.is.fits) ∙ refl in
      let a = length-append x.text x.is.rest in
      omega arith

-- ---- the empty mark

pub empty_first : (t : List ℕ) → FirstAt [] t 1
empty_first t = record { there = record { before = []; after = t; text = refl; index = refl }; first = λ j o. (occurs_within o).1 }

pub empty_has : {s : List Block} → SomeLacks [] s → ⊥
empty_has x = x.lacks.nowhere 1 (empty_first x.text).there

pub empty_indices : {s : List Block} (t : List ℕ) → Fits s t → Indices [] s 1 1
empty_indices {s} t f = record {
  at_least = record { text = t; fits = f; first = empty_first t };
  at_greatest = record { text = t; fits = f; first = empty_first t };
  from = λ i x. (occurs_within x.first.there).1;
  to = λ i x. x.first.first 1 (empty_first x.text).there;
}
