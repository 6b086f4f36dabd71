-- Digits written from the last to the first. Assumes nothing.
use mathlib.Core.Path.{◌≡◌, refl, sym, ap, ◌∙◌}
use mathlib.Core.List.{List, [], ◌∷◌, ◌++◌, append-nil, append_assoc}
use Prim.Native.Nat.{ℕ, suc, ◌+◌, ◌-◌, ◌/◌, ◌%◌, ◌<◌}
use native.Mathlib.Omega.{arith}
use lib.ListN.{set}
use lib.Seq.{sets}
use Rattle.file_numerals.specs.Digits.{glyph, digits}
use Rattle.file_numerals.proofs.Stores.{set_sets}

-- k digits of n: i digits of `rest` are still to write, those after them stand from place at + i on
pub record Spelt (base k n i rest at : ℕ) (out₀ out : List ℕ) : Type 0 where
  pub written : List ℕ
  pub whole : digits base k n ≡ digits base i rest ++ written
  pub stored : out ≡ sets out₀ (at + i) written

pub spelt_all : (base k n at : ℕ) (out : List ℕ) → Spelt base k n k n at out out
spelt_all base k n at out = record { written = []; whole = sym (append-nil (digits base k n)); stored = refl }

one_digit : (base i rest : ℕ) → 0 < i → digits base i rest ≡ digits base (i - 1) (rest / base) ++ (glyph (rest % base) ∷ [])
unfolding digits
one_digit base i rest h = ap (λ (j : ℕ). digits base j rest) (let e : i ≡ suc (i - 1) = omega arith in e)

pub spelt_more : (base k n i rest at : ℕ) (out₀ out : List ℕ) (c : ℕ) → 0 < i → c ≡ glyph (rest % base) → Spelt base k n i rest at out₀ out
    → Spelt base k n (i - 1) (rest / base) at out₀ (set out (at + (i - 1)) c)
spelt_more base k n i rest at out₀ out c h e s =
    record {
      written = c ∷ s.written;
      whole = s.whole ∙ ap (λ (t : List ℕ). t ++ s.written) (one_digit base i rest h)
          ∙ append_assoc (digits base (i - 1) (rest / base)) (glyph (rest % base) ∷ []) s.written
          ∙ ap (λ (d : ℕ). digits base (i - 1) (rest / base) ++ (d ∷ s.written)) (sym e);
      stored = ap (λ (o : List ℕ). set o (at + (i - 1)) c) s.stored ∙ set_sets s.written out₀ (at + i) (at + (i - 1)) c (omega arith)
          ∙ ap (λ (j : ℕ). sets (set out₀ (at + (i - 1)) c) j s.written) (let f : at + i ≡ suc (at + (i - 1)) = omega arith in f);
    }

pub spelt_done : (base k n i rest at : ℕ) (out₀ out : List ℕ) → i ≡ 0 → Spelt base k n i rest at out₀ out → out ≡ sets out₀ at (digits base k n)
unfolding digits
spelt_done base k n i rest at out₀ out h s =
    let e : s.written ≡ digits base k n = sym (s.whole ∙ ap (λ (j : ℕ). digits base j rest ++ s.written) h) in
    s.stored ∙ ap (λ (j : ℕ). sets out₀ j s.written) (let f : at + i ≡ at = omega arith in f) ∙ ap (sets out₀ at) e
