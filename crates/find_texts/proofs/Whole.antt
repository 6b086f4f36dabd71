-- Every text lacks the mark or has a first occurrence of it; a shape of sound blocks has a text. Assumes nothing.
use mathlib.Core.Path.{◌≡◌, refl, sym, ap, ◌∙◌, subst}
use mathlib.Core.List.{List, [], ◌∷◌, ◌++◌}
use mathlib.Core.Logic.{◌⊎◌, inl, inr, ⊎_elim}
use Prim.Native.Nat.{ℕ, zero, suc, ◌<◌}
use native.Mathlib.Omega.{arith}
use lib.ListN.{length}
use Rattle.plain.specs.All.{All}
use Rattle.plain.specs.All.All.{none, more}
use Rattle.shapes.specs.Shape.{Block, Sound, fill, Fits, text_of}
use Rattle.shapes.proofs.Fits.{fits_none}
use Rattle.find_texts.specs.Occurs.{Lacks, FirstAt, SomeFirst}
use Rattle.find_texts.proofs.Lists.{length_snoc, last_cut}
use Rattle.find_texts.proofs.Occur.{occurs_within, lacks_snoc, snoc_completes, first_on}
use Rattle.find_texts.proofs.State.{ends_or_not}
use Rattle.find_texts.proofs.Found.{empty_first}
use Rattle.find_texts.proofs.Read.{fill_up}

module _ (mark : List ℕ) (some : 0 < length mark) where
  one_more : (t : List ℕ) (c : ℕ) → Lacks mark t ⊎ ((i : ℕ) × FirstAt mark t i) → Lacks mark (t ++ (c ∷ [])) ⊎ ((i : ℕ) × FirstAt mark (t ++ (c ∷ [])) i)
  one_more t c (inl l) = ⊎_elim
      (λ e. let k = snoc_completes t c l e in inr (k.index, k.first))
      (λ n. inl (lacks_snoc t c l n))
      (ends_or_not mark (t ++ (c ∷ [])))
  one_more t c (inr f) = inr (f.0, first_on (c ∷ []) f.1)

  lacks_or : (n : ℕ) (t : List ℕ) → length t ≡ n → Lacks mark t ⊎ ((i : ℕ) × FirstAt mark t i)
  lacks_or zero t e = inl (record { nowhere = λ i o. let w = occurs_within o in omega arith })
  lacks_or (suc n) t e =
      let l = last_cut t (omega arith) in
      let d = ap length l.2 ∙ length_snoc l.0 l.1 in
      subst (λ (u : List ℕ). Lacks mark u ⊎ ((i : ℕ) × FirstAt mark u i)) (sym l.2) (one_more l.0 l.1 (lacks_or n l.0 (omega arith)))

pub lacks_or_has : (mark t : List ℕ) → Lacks mark t ⊎ ((i : ℕ) × FirstAt mark t i)
lacks_or_has [] t = inr (1, empty_first t)
lacks_or_has (c ∷ mark) t = lacks_or (c ∷ mark) (omega arith) (length t) t refl

-- where no text that fits has a first occurrence, each lacks the mark
pub none_has : {mark : List ℕ} {s : List Block} → ((i : ℕ) → SomeFirst mark s i → ⊥) → (t : List ℕ) → Fits s t → Lacks mark t
none_has {mark} n t f = ⊎_elim (λ l. l) (λ x. absurd (n x.0 (record { text = t; fits = f; first = x.1 }))) (lacks_or_has mark t)

pub some_text : {s : List Block} → All Sound s → (t : List ℕ) × Fits s t
unfolding text_of
some_text none = ([], fits_none)
some_text (more g h) =
    let r = fill_up [] g none (omega arith) in
    let f = some_text h in
    (r.0 ++ f.0, record { runs = r.0 ∷ f.1.runs; filling = fill r.1 f.1.filling; joined = ap (λ (x : List ℕ). r.0 ++ x) f.1.joined })
