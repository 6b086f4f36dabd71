-- Occurrences in the front of a text and in the whole of it; the first one cuts a text after its end. Assumes nothing.
use mathlib.Core.Path.{◌≡◌, refl, sym, ap, ◌∙◌, subst}
use mathlib.Core.List.{List, [], ◌∷◌, ◌++◌, append_assoc, append-nil}
use mathlib.Core.Logic.{⊎_elim}
use Prim.Native.Nat.{ℕ, ◌+◌, ◌≤◌, ◌<◌}
use native.Mathlib.Omega.{arith}
use lib.ListN.{length, length-append}
use Rattle.plain.proofs.Plain.{lt_or_le}
use Rattle.find_texts.specs.Occurs.{OccursAt, Lacks, FirstAt}
use Rattle.find_texts.specs.Match.{EndsWith, Completes}
use Rattle.find_texts.proofs.Lists.{cut, length_snoc}

-- an occurrence ends within the text, and starts at 1 or later
pub occurs_within : {mark t : List ℕ} {i : ℕ} → OccursAt mark t i → (i + length mark ≤ length t + 1) × (1 ≤ i)
occurs_within {mark} {t} {i} o =
    let e = ap length o.text ∙ length-append o.before (mark ++ o.after) in
    let f = length-append mark o.after in
    let g = o.index in
    (omega arith, omega arith)

pub occurs_more : {mark t : List ℕ} {i : ℕ} (u : List ℕ) → OccursAt mark t i → OccursAt mark (t ++ u) i
occurs_more {mark} {t} u o = record {
  before = o.before;
  after = o.after ++ u;
  text = ap (λ (l : List ℕ). l ++ u) o.text ∙ append_assoc o.before (mark ++ o.after) u ∙ ap (λ (l : List ℕ). o.before ++ l) (append_assoc mark o.after u);
  index = o.index;
}

pub occurs_front : {mark : List ℕ} {i : ℕ} (t u : List ℕ) → OccursAt mark (t ++ u) i → i + length mark ≤ length t + 1 → OccursAt mark t i
occurs_front {mark} {i} t u o l =
    let g = o.index in
    let n = length-append o.before mark in
    let r = cut t u (o.before ++ mark) o.after (o.text ∙ sym (append_assoc o.before mark o.after)) (omega arith) in
    record { before = o.before; after = r.0; text = r.1 ∙ append_assoc o.before mark r.0; index = o.index }

-- ---- at the end

pub ends_occurs : {mark t : List ℕ} → EndsWith mark t → (i : ℕ) × OccursAt mark t i × (i + length mark ≡ length t + 1)
ends_occurs {mark} {t} e =
    let n = ap length e.text ∙ length-append e.before mark in
    (length e.before + 1, record { before = e.before; after = []; text = e.text ∙ ap (λ (l : List ℕ). e.before ++ l) (sym (append-nil mark)); index = refl }, omega arith)

no_rest : (l : List ℕ) → length l ≡ 0 → l ≡ []
no_rest [] h = refl
no_rest (x ∷ l) h = absurd (omega arith)

pub occurs_ends : {mark t : List ℕ} {i : ℕ} → OccursAt mark t i → i + length mark ≡ length t + 1 → EndsWith mark t
occurs_ends {mark} {t} {i} o l =
    let e = ap length o.text ∙ length-append o.before (mark ++ o.after) in
    let f = length-append mark o.after in
    let g = o.index in
    let z = no_rest o.after (omega arith) in
    record { before = o.before; text = o.text ∙ ap (λ (l : List ℕ). o.before ++ (mark ++ l)) z ∙ ap (λ (l : List ℕ). o.before ++ l) (append-nil mark) }

-- ---- texts that lack the mark

pub lacks_front : {mark : List ℕ} (t u : List ℕ) → Lacks mark (t ++ u) → Lacks mark t
lacks_front t u h = record { nowhere = λ i o. h.nowhere i (occurs_more u o) }

pub lacks_end : {mark t : List ℕ} → Lacks mark t → EndsWith mark t → ⊥
lacks_end h e = let o = ends_occurs e in h.nowhere o.0 o.1

-- one more character: the mark is lacking still, unless it stands at the end
pub lacks_snoc : {mark : List ℕ} (t : List ℕ) (c : ℕ) → Lacks mark t → (EndsWith mark (t ++ (c ∷ [])) → ⊥) → Lacks mark (t ++ (c ∷ []))
lacks_snoc {mark} t c h n = record {
  nowhere = λ i o.
      let w = (occurs_within o).0 in
      let l = length_snoc t c in
      ⊎_elim
      (λ g. h.nowhere i (occurs_front t (c ∷ []) o (omega arith)))
      (λ g. n (occurs_ends o (omega arith)))
      (lt_or_le (i + length mark) (length t + 2));
}

-- and then it is the first
pub snoc_completes : {mark : List ℕ} (t : List ℕ) (c : ℕ) → Lacks mark t → EndsWith mark (t ++ (c ∷ [])) → Completes mark (t ++ (c ∷ []))
snoc_completes {mark} t c h e =
    let o = ends_occurs e in
    let d = o.2 in
    let l = length_snoc t c in
    record {
      index = o.0;
      first = record {
        there = o.1;
        first = λ j p. ⊎_elim (λ g. absurd (h.nowhere j (occurs_front t (c ∷ []) p (omega arith)))) (λ g. g) (lt_or_le j o.0);
      };
      last = d;
    }

pub completes_ends : {mark t : List ℕ} → Completes mark t → EndsWith mark t
completes_ends k = occurs_ends k.first.there k.last

pub completes_lacked : {mark : List ℕ} (t : List ℕ) (c : ℕ) → Completes mark (t ++ (c ∷ [])) → Lacks mark t
completes_lacked {mark} t c k = record {
  nowhere = λ j o.
      let f = k.first.first j (occurs_more (c ∷ []) o) in
      let w = (occurs_within o).0 in
      let l = length_snoc t c in
      let e = k.last in
      omega arith;
}

pub completes_some : {mark t : List ℕ} → 0 < length mark → Completes mark t → 0 < length t
completes_some h k = let w = (occurs_within k.first.there).1 in let e = k.last in omega arith

-- ---- the first occurrence, in the whole text

-- what is read when it is complete
pub record Cut (mark w : List ℕ) (i : ℕ) : Type 0 where
  pub front : List ℕ
  pub rest : List ℕ
  pub text : w ≡ front ++ rest
  pub completes : Completes mark front
  pub long : i + length mark ≡ length front + 1

pub first_cut : {mark w : List ℕ} {i : ℕ} → FirstAt mark w i → Cut mark w i
first_cut {mark} {w} {i} f =
    let o = f.there in
    let g = o.index in
    let n = length-append o.before mark in
    let x = o.text ∙ sym (append_assoc o.before mark o.after) in
    let e : i + length mark ≡ length (o.before ++ mark) + 1 = omega arith in
    record {
      front = o.before ++ mark;
      rest = o.after;
      text = x;
      completes = record {
        index = i;
        first = record {
          there = record { before = o.before; after = []; text = ap (λ (l : List ℕ). o.before ++ l) (sym (append-nil mark)); index = g };
          first = λ j p. f.first j (subst (λ (l : List ℕ). OccursAt mark l j) (sym x) (occurs_more o.after p));
        };
        last = e;
      };
      long = e;
    }

-- a first occurrence is the first in every longer text
pub first_on : {mark t : List ℕ} {i : ℕ} (u : List ℕ) → FirstAt mark t i → FirstAt mark (t ++ u) i
first_on {mark} {t} {i} u f = record {
  there = occurs_more u f.there;
  first = λ j o. ⊎_elim
      (λ g. let w = (occurs_within f.there).0 in f.first j (occurs_front t u o (omega arith)))
      (λ g. g)
      (lt_or_le j i);
}
