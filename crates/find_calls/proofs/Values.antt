-- What document 02's values of an answer say of the texts that fit: some lacks the mark, where it first starts, an empty
-- mark, and the one refusal that a shape does not have. Assumes nothing.
use mathlib.Core.Path.{◌≡◌, refl, ◌∙◌, subst}
use mathlib.Core.Bool.{true, false, false≢true}
use mathlib.Core.List.{List, [], ◌++◌}
use mathlib.Core.Logic.{◌↔◌, inr}
use Prim.Native.Nat.{ℕ, ◌≤◌, ◌<◌}
use native.Mathlib.Omega.{arith}
use lib.ListN.{length, get_or}
use Rattle.answers.specs.Told.{Told, told}
use Rattle.answers.specs.Turns.{here, later}
use Rattle.std.specs.Prelude.{Result, Ok, Err}
use Rattle.answers.specs.declared.Refusal.{Refusal}
use Rattle.answers.specs.declared.Sought.{Sought}
use Rattle.answers.specs.declared.Sought.TheVariants.{Nowhere, InSome, InAll}
use Rattle.bases.specs.Base.{Holds}
use Rattle.plain.specs.All.{All}
use Rattle.plain.proofs.All.{all_left, all_right, all_at}
use Rattle.shapes.specs.Shape.{Block, Fits}
use Rattle.shapes.specs.Lent.{shape_of, Accepted}
use Rattle.shapes.proofs.Fits.{not_in_text}
use Rattle.shapes.proofs.Refused.{shape_other}
use Rattle.find_texts.specs.Occurs.{Lacks, FirstAt, SomeLacks, SomeFirst}
use Rattle.find_texts.proofs.Occur.{occurs_within}
use Rattle.find_texts.proofs.Found.{empty_first}
use Rattle.find_texts.proofs.Whole.{some_text}
use Rattle.find_calls.specs.Find.{Asked, FindRefused, FindPromise, lacking, least_index, greatest_index}
use Rattle.find_calls.proofs.Determined.{find_refused_not, has_not_lacks}

-- some text of an accepted shape lacks what all of them lack
all_lack : {xs mark : List ℕ} → Asked xs mark → ((t : List ℕ) → Fits (shape_of xs) t → Lacks mark t) → SomeLacks mark (shape_of xs)
all_lack a n = let t = some_text a.accepted.sound in record { text = t.0; fits = t.1; lacks = n t.0 t.1 }

-- an index is above 0
index_above : {mark : List ℕ} {s : List Block} {i : ℕ} → SomeFirst mark s i → i ≡ 0 → ⊥
index_above x e = let w = (occurs_within x.first.there).1 in omega arith

module _ {xs mark : List ℕ} (a : Asked xs mark) where
  pub lacks : (r : Result Sought Refusal) → FindPromise xs mark r → (lacking r ≡ true) ↔ SomeLacks mark (shape_of xs)
  lacks (Ok Nowhere) p = ((λ e. all_lack a p.1), λ x. refl)
  lacks (Ok (InSome i j)) p = ((λ e. p.1.0), λ x. refl)
  lacks (Ok (InAll i j)) p = ((λ e. absurd (false≢true e)), λ x. absurd (p.1.0 x))
  lacks (Err q) p = absurd (find_refused_not xs mark p a)

  pub least_there : (r : Result Sought Refusal) → FindPromise xs mark r → 0 < least_index r → SomeFirst mark (shape_of xs) (least_index r)
  least_there (Ok Nowhere) p h = absurd (omega arith)
  least_there (Ok (InSome i j)) p h = p.1.1.at_least
  least_there (Ok (InAll i j)) p h = p.1.1.at_least
  least_there (Err q) p h = absurd (find_refused_not xs mark p a)

  pub greatest_there : (r : Result Sought Refusal) → FindPromise xs mark r → 0 < least_index r → SomeFirst mark (shape_of xs) (greatest_index r)
  greatest_there (Ok Nowhere) p h = absurd (omega arith)
  greatest_there (Ok (InSome i j)) p h = p.1.1.at_greatest
  greatest_there (Ok (InAll i j)) p h = p.1.1.at_greatest
  greatest_there (Err q) p h = absurd (find_refused_not xs mark p a)

  pub between : (r : Result Sought Refusal) → FindPromise xs mark r → (t : List ℕ) → Fits (shape_of xs) t → (i : ℕ) → FirstAt mark t i → (least_index r ≤ i) × (i ≤ greatest_index r)
  between (Ok Nowhere) p t f k h = absurd ((p.1 t f).nowhere k h.there)
  between (Ok (InSome i j)) p t f k h = let x : SomeFirst mark (shape_of xs) k = record { text = t; fits = f; first = h } in (p.1.1.from k x, p.1.1.to k x)
  between (Ok (InAll i j)) p t f k h = let x : SomeFirst mark (shape_of xs) k = record { text = t; fits = f; first = h } in (p.1.1.from k x, p.1.1.to k x)
  between (Err q) p t f k h = absurd (find_refused_not xs mark p a)

  pub none_has : (r : Result Sought Refusal) → FindPromise xs mark r → (least_index r ≡ 0) ↔ ((t : List ℕ) → Fits (shape_of xs) t → Lacks mark t)
  none_has (Ok Nowhere) p = ((λ e. p.1), λ n. refl)
  none_has (Ok (InSome i j)) p = ((λ e. absurd (index_above p.1.1.at_least e)), λ n. absurd (has_not_lacks p.1.1.at_least n))
  none_has (Ok (InAll i j)) p = ((λ e. absurd (index_above p.1.1.at_least e)), λ n. absurd (has_not_lacks p.1.1.at_least n))
  none_has (Err q) p = absurd (find_refused_not xs mark p a)

  pub none_both : (r : Result Sought Refusal) → FindPromise xs mark r → least_index r ≡ 0 → greatest_index r ≡ 0
  none_both (Ok Nowhere) p e = refl
  none_both (Ok (InSome i j)) p e = absurd (index_above p.1.1.at_least e)
  none_both (Ok (InAll i j)) p e = absurd (index_above p.1.1.at_least e)
  none_both (Err q) p e = refl

  -- no fitting text has a character that no base holds
  pub never : (r : Result Sought Refusal) → FindPromise xs mark r → (j : ℕ) → j < length mark → All (λ (b : Block). Holds b.base (get_or mark j 0) → ⊥) (shape_of xs) → r ≡ Ok Nowhere
  never r p j l n = go r p
    where
      not_there : {i : ℕ} → SomeFirst mark (shape_of xs) i → ⊥
      not_there x =
          let o = x.first.there in
          let all = subst (All (λ (c : ℕ). c ≡ get_or mark j 0 → ⊥)) (x.fits.joined ∙ o.text) (not_in_text (get_or mark j 0) n x.fits.filling) in
          all_at 0 (all_left mark o.after (all_right o.before (mark ++ o.after) all)) j l refl

      go : (s : Result Sought Refusal) → FindPromise xs mark s → s ≡ Ok Nowhere
      go (Ok Nowhere) q = refl
      go (Ok (InSome k m)) q = absurd (not_there q.1.1.at_least)
      go (Ok (InAll k m)) q = absurd (not_there q.1.1.at_least)
      go (Err k) q = absurd (find_refused_not xs mark q a)

pub empty_answer : {xs : List ℕ} (r : Result Sought Refusal) → Accepted xs → FindPromise xs [] r → (lacking r ≡ false) × (least_index r ≡ 1) × (greatest_index r ≡ 1)
empty_answer {xs} (Ok Nowhere) a p = let t = some_text a.sound in absurd ((p.1 t.0 t.1).nowhere 1 (empty_first t.0).there)
empty_answer {xs} (Ok (InSome i j)) a p = let x = p.1.0 in absurd (x.lacks.nowhere 1 (empty_first x.text).there)
empty_answer {xs} (Ok (InAll i j)) a p =
    let x = p.1.1.at_least in
    let y = p.1.1.at_greatest in
    let l = (occurs_within x.first.there).1 in
    let g = (occurs_within y.first.there).1 in
    let m = x.first.first 1 (empty_first x.text).there in
    let n = y.first.first 1 (empty_first y.text).there in
    (refl, omega arith, omega arith)
empty_answer {xs} (Err q) a p = absurd (find_refused_not xs [] p (record { accepted = a; few = omega arith }))

-- 13 is no refusal of a shape
pub thirteen_only : (xs mark : List ℕ) (q : Refusal) → FindPromise xs mark (Err q) → (told q).number ≡ 13 → Accepted xs × (64 < length mark)
thirteen_only xs mark q p e = go (told q) p e
  where
    go : (t : Told) → FindRefused xs mark t → t.number ≡ 13 → Accepted xs × (64 < length mark)
    go t (here d) n = absurd (shape_other (omega arith, inr (omega arith)) d n)
    go t (later a (later _ x4)) n = elim x4 [ ]
    go t (later a (here d)) n = (a, let l = d.lacking in omega (arith, l))
