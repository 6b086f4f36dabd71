-- One more character of a base: the lengths that are kept in each state, and those at which the mark is complete.
-- Assumes nothing.
use mathlib.Core.Path.{◌≡◌, refl, sym, ap, ◌∙◌, subst}
use mathlib.Core.List.{List, [], ◌∷◌, ◌++◌}
use mathlib.Core.Logic.{⊎_elim}
use Prim.Native.Nat.{ℕ, ◌+◌, ◌<◌}
use native.Mathlib.Omega.{arith}
use lib.ListN.{length}
use Rattle.plain.proofs.Plain.{lt_or_le}
use Rattle.find_texts.specs.Occurs.{Lacks}
use Rattle.find_texts.specs.Match.{Matched, Completes, Then, SomeKept, Struck, StateGoes, Stepped}
use Rattle.find_texts.proofs.Lists.{length_snoc}
use Rattle.find_texts.proofs.Occur.{lacks_front, lacks_end, lacks_snoc, snoc_completes, completes_ends, completes_lacked}
use Rattle.find_texts.proofs.State.{step_mark, step_text, state_of, whole_ends, ends_whole}

module _ (mark : List ℕ) where
  -- a text that lacks the mark has less than all of it matched
  pub lacking_small : {t : List ℕ} {q : ℕ} → Lacks mark t → Matched mark t q → q < length mark
  lacking_small {t} {q} h m = ⊎_elim (λ l. l)
      (λ l.
      let w = m.within in
      let e : q ≡ length mark = omega arith in
      absurd (lacks_end h (whole_ends mark (subst (Matched mark t) e m))))
      (lt_or_le q (length mark))

  module _ {T : List ℕ → Type 0} {base : ℕ} where
    pub kept_step : {r k : ℕ} → SomeKept mark (Then T base) r k → Stepped mark base (SomeKept mark T) r k
    kept_step {r} {k} x =
        let t = x.is in
        let a = subst (Lacks mark) t.text x.lacks in
        let b = subst (λ (l : List ℕ). Matched mark l r) t.text x.matched in
        let l = lacks_front t.front (t.char ∷ []) a in
        let s = state_of mark t.front in
        record {
          state = s.0;
          length_before = length t.front;
          small = lacking_small l s.1;
          from = record { text = t.front; is = t.in_front; long = refl; lacks = l; matched = s.1 };
          goes = record { char = t.char; held = t.held; matched = step_mark mark t.char s.1 b };
          next = sym x.long ∙ ap length t.text ∙ length_snoc t.front t.char;
        }

    one_more : {q k r : ℕ} → (x : SomeKept mark T q k) → (g : StateGoes mark base q r) → Then T base (x.text ++ (g.char ∷ []))
    one_more x g = record { front = x.text; char = g.char; in_front = x.is; held = g.held; text = refl }

    pub step_kept : {r k : ℕ} → r < length mark → Stepped mark base (SomeKept mark T) r k → SomeKept mark (Then T base) r k
    step_kept {r} {k} l x =
        let f = x.from in
        let g = x.goes in
        let m = step_text mark g.char f.matched g.matched in
        record {
          text = f.text ++ (g.char ∷ []);
          is = one_more f g;
          long = length_snoc f.text g.char ∙ ap (λ (n : ℕ). n + 1) f.long ∙ sym x.next;
          lacks = lacks_snoc f.text g.char f.lacks (λ e. let z = ends_whole mark e m in omega arith);
          matched = m;
        }

    pub struck_step : {k : ℕ} → Struck mark (Then T base) k → Stepped mark base (SomeKept mark T) (length mark) k
    struck_step {k} x =
        let t = x.is in
        let a = subst (Completes mark) t.text x.completes in
        let l = completes_lacked t.front t.char a in
        let s = state_of mark t.front in
        let z = state_of mark (t.front ++ (t.char ∷ [])) in
        let e = ends_whole mark (completes_ends a) z.1 in
        record {
          state = s.0;
          length_before = length t.front;
          small = lacking_small l s.1;
          from = record { text = t.front; is = t.in_front; long = refl; lacks = l; matched = s.1 };
          goes = record { char = t.char; held = t.held; matched = step_mark mark t.char s.1 (subst (Matched mark (t.front ++ (t.char ∷ []))) e z.1) };
          next = sym x.long ∙ ap length t.text ∙ length_snoc t.front t.char;
        }

    pub step_struck : {k : ℕ} → Stepped mark base (SomeKept mark T) (length mark) k → Struck mark (Then T base) k
    step_struck {k} x =
        let f = x.from in
        let g = x.goes in
        record {
          text = f.text ++ (g.char ∷ []);
          is = one_more f g;
          long = length_snoc f.text g.char ∙ ap (λ (n : ℕ). n + 1) f.long ∙ sym x.next;
          completes = snoc_completes f.text g.char f.lacks (whole_ends mark (step_text mark g.char f.matched g.matched));
        }

  -- ---- other texts with the same reading

  pub kept_as : {T U : List ℕ → Type 0} {q k : ℕ} → ((t : List ℕ) → T t → U t) → SomeKept mark T q k → SomeKept mark U q k
  kept_as f x = record { text = x.text; is = f x.text x.is; long = x.long; lacks = x.lacks; matched = x.matched }

  pub struck_as : {T U : List ℕ → Type 0} {k : ℕ} → ((t : List ℕ) → T t → U t) → Struck mark T k → Struck mark U k
  struck_as f x = record { text = x.text; is = f x.text x.is; long = x.long; completes = x.completes }

  pub stepped_as : {base : ℕ} {Q W : ℕ → ℕ → Type 0} {r k : ℕ} → ((q j : ℕ) → q < length mark → Q q j → W q j) → Stepped mark base Q r k → Stepped mark base W r k
  stepped_as f x = record { state = x.state; length_before = x.length_before; small = x.small; from = f x.state x.length_before x.small x.from; goes = x.goes; next = x.next }
