-- How much of the mark a text ends with: every text has one such number, and one more character makes of it what it
-- makes of the mark's own start. Assumes nothing.
use mathlib.Core.Path.{◌≡◌, refl, sym, ap, ◌∙◌, subst}
use mathlib.Core.List.{List, [], ◌∷◌, ◌++◌, append_assoc, append-nil}
use mathlib.Core.Logic.{◌⊎◌, inl, inr, ⊎_elim}
use Prim.Native.Nat.{ℕ, zero, suc, ◌-◌, ◌≤◌, ◌<◌}
use native.Mathlib.Omega.{arith}
use lib.ListN.{length, length-append, take, drop, get_or, take-append-drop}
use lib.Seq.{take-suc, length-take-le, drop_at, take-length}
use Rattle.plain.proofs.Plain.{lt_or_le}
use Rattle.find_texts.specs.Match.{EndsWith, Matched}
use Rattle.find_texts.proofs.Lists.{cut, snoc_front, snoc_last, list_eq, greatest_to}

-- ---- ends of a text

pub ends_none : (t : List ℕ) → EndsWith [] t
ends_none t = record { before = t; text = sym (append-nil t) }

pub ends_self : (t : List ℕ) → EndsWith t t
ends_self t = record { before = []; text = refl }

pub ends_length : {p t : List ℕ} → EndsWith p t → length p ≤ length t
ends_length {p} {t} e = let n = ap length e.text ∙ length-append e.before p in omega arith

pub ends_through : {p u t : List ℕ} → EndsWith p u → EndsWith u t → EndsWith p t
ends_through {p} a b = record { before = b.before ++ a.before; text = b.text ∙ ap (λ (l : List ℕ). b.before ++ l) a.text ∙ sym (append_assoc b.before a.before p) }

-- of two ends of a text the longer ends with the shorter
pub ends_nested : {p u t : List ℕ} → EndsWith p t → EndsWith u t → length p ≤ length u → EndsWith p u
ends_nested {p} {u} {t} a b l =
    let m = ap length a.text ∙ length-append a.before p in
    let n = ap length b.text ∙ length-append b.before u in
    let r = cut a.before p b.before u (sym a.text ∙ b.text) (omega arith) in
    record { before = r.0; text = r.2 }

pub ends_or_not : (p t : List ℕ) → EndsWith p t ⊎ (EndsWith p t → ⊥)
ends_or_not p t = ⊎_elim
    (λ l. inr (λ e. let n = ends_length e in omega arith))
    (λ l. ⊎_elim
    (λ h. inl (record { before = take k t; text = sym (take-append-drop k t) ∙ ap (λ (x : List ℕ). take k t ++ x) h }))
    (λ h. inr (λ e.
    let n = ap length e.text ∙ length-append e.before p in
    h (ap (drop k) e.text ∙ drop_at e.before p k (omega arith))))
    (list_eq (drop k t) p))
    (lt_or_le (length t) (length p))
  where
    k : ℕ
    k = length t - length p

-- ---- one more character

module _ (mark : List ℕ) where
  pub ends_snoc : (t : List ℕ) (c r : ℕ) → r < length mark → EndsWith (take r mark) t → get_or mark r 0 ≡ c → EndsWith (take (suc r) mark) (t ++ (c ∷ []))
  ends_snoc t c r l e h = record {
    before = e.before;
    text = ap (λ (x : List ℕ). x ++ (c ∷ [])) e.text ∙ append_assoc e.before (take r mark) (c ∷ [])
        ∙ ap (λ (x : ℕ). e.before ++ (take r mark ++ (x ∷ []))) (sym h) ∙ ap (λ (x : List ℕ). e.before ++ x) (sym (take-suc mark r 0 l));
  }

  pub snoc_ends : (t : List ℕ) (c r : ℕ) → r < length mark → EndsWith (take (suc r) mark) (t ++ (c ∷ [])) → EndsWith (take r mark) t × (get_or mark r 0 ≡ c)
  snoc_ends t c r l e =
      let x : t ++ (c ∷ []) ≡ (e.before ++ take r mark) ++ (get_or mark r 0 ∷ []) =
      e.text ∙ ap (λ (x : List ℕ). e.before ++ x) (take-suc mark r 0 l) ∙ sym (append_assoc e.before (take r mark) (get_or mark r 0 ∷ [])) in
      (record { before = e.before; text = snoc_front t (e.before ++ take r mark) c (get_or mark r 0) x }, sym (snoc_last t (e.before ++ take r mark) c (get_or mark r 0) x))

  -- what a text ends with, of the mark, the part matched ends with
  pub ends_matched : {t : List ℕ} {q : ℕ} (r : ℕ) → Matched mark t q → r ≤ length mark → EndsWith (take r mark) t → EndsWith (take r mark) (take q mark)
  ends_matched {t} {q} r m l e =
      let a = m.longest r l e in
      let b = m.within in
      let x = length-take-le r mark l in
      let y = length-take-le q mark b in
      ends_nested e m.ends (omega arith)

  -- so one more character matters to both alike
  pub as_mark : {t : List ℕ} {q : ℕ} (c : ℕ) → Matched mark t q → (r : ℕ) → r ≤ length mark → EndsWith (take r mark) (t ++ (c ∷ [])) → EndsWith (take r mark) (take q mark ++ (c ∷ []))
  as_mark {t} {q} c m zero l e = ends_none (take q mark ++ (c ∷ []))
  as_mark {t} {q} c m (suc r) l e = let p = snoc_ends t c r (omega arith) e in ends_snoc (take q mark) c r (omega arith) (ends_matched r m (omega arith) p.0) p.1

  pub as_text : {t : List ℕ} {q : ℕ} (c : ℕ) → Matched mark t q → (r : ℕ) → r ≤ length mark → EndsWith (take r mark) (take q mark ++ (c ∷ [])) → EndsWith (take r mark) (t ++ (c ∷ []))
  as_text {t} {q} c m zero l e = ends_none (t ++ (c ∷ []))
  as_text {t} {q} c m (suc r) l e = let p = snoc_ends (take q mark) c r (omega arith) e in ends_snoc t c r (omega arith) (ends_through p.0 m.ends) p.1

  pub step_mark : {t : List ℕ} {q r : ℕ} (c : ℕ) → Matched mark t q → Matched mark (t ++ (c ∷ [])) r → Matched mark (take q mark ++ (c ∷ [])) r
  step_mark {r} c m n = record { within = n.within; ends = as_mark c m r n.within n.ends; longest = λ k l e. n.longest k l (as_text c m k l e) }

  pub step_text : {t : List ℕ} {q r : ℕ} (c : ℕ) → Matched mark t q → Matched mark (take q mark ++ (c ∷ [])) r → Matched mark (t ++ (c ∷ [])) r
  step_text {r} c m n = record { within = n.within; ends = as_text c m r n.within n.ends; longest = λ k l e. n.longest k l (as_mark c m k l e) }

  -- ---- every text has a state, and one only

  pub state_of : (t : List ℕ) → (q : ℕ) × Matched mark t q
  state_of t =
      let g = greatest_to (λ r. EndsWith (take r mark) t) (λ r. ends_or_not (take r mark) t) (ends_none t) (length mark) in
      (g.0, record { within = g.1; ends = g.2; longest = g.3 })

  pub one_state : {t : List ℕ} {q r : ℕ} → Matched mark t q → Matched mark t r → q ≡ r
  one_state {t} {q} {r} m n =
      let a = m.longest r n.within n.ends in
      let b = n.longest q m.within m.ends in
      omega arith

  -- the whole mark is matched exactly where the text ends with it
  pub whole_ends : {t : List ℕ} → Matched mark t (length mark) → EndsWith mark t
  whole_ends {t} m = subst (λ (p : List ℕ). EndsWith p t) (take-length mark) m.ends

  pub ends_whole : {t : List ℕ} {q : ℕ} → EndsWith mark t → Matched mark t q → q ≡ length mark
  ends_whole {t} {q} e m =
      let a = m.longest (length mark) (omega arith) (subst (λ (p : List ℕ). EndsWith p t) (sym (take-length mark)) e) in
      let b = m.within in
      omega arith
