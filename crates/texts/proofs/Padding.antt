-- Equality but for blanks at the end: an equivalence, that of two texts one of which is the other with blanks behind;
-- leading and inner blanks count. Assumes nothing.
use mathlib.Core.Path.{◌≡◌, refl, sym, ap, ap₂, ◌∙◌, subst}
use mathlib.Core.Bool.{Bool, true, false}
use mathlib.Core.List.{List, [], ◌∷◌, ◌++◌, append_assoc}
use mathlib.Core.Logic.{◌⊎◌, inl, inr, ⊎_elim}
use Prim.Native.Nat.{ℕ, zero, suc, ◌+◌, ◌-◌, ◌≤◌}
use native.Mathlib.Nat.{le_of_lt}
use native.Mathlib.Omega.{arith}
use lib.Dec.{eqb}
use lib.ListN.{length, replicate, length-append, replicate-append-replicate}
use borrow.Author.Tests.{eqb-true}
use Rattle.plain.proofs.Plain.{lt_or_le}
use Rattle.texts.specs.Order.{AtMost, Before}
use Rattle.texts.specs.Padding.{blank, put_in_front, trimmed, Padded, BlanksBehind}
use Rattle.texts.proofs.Order.{before_itself, not_back}

-- ---- an equivalence

pub padded_refl : (t : List ℕ) → Padded t t
padded_refl t = refl

pub padded_equal : {t u : List ℕ} → t ≡ u → Padded t u
padded_equal e = ap trimmed e

pub padded_sym : (t u : List ℕ) → Padded t u → Padded u t
padded_sym t u e = sym e

pub padded_trans : (t u v : List ℕ) → Padded t u → Padded u v → Padded t v
padded_trans t u v e f = e ∙ f

-- ---- blanks behind a text

pub blanks_empty : (n : ℕ) → Padded (replicate n blank) []
unfolding trimmed put_in_front
blanks_empty zero = refl
blanks_empty (suc n) = ap (put_in_front blank) (blanks_empty n)

pub padded_blanks : (t : List ℕ) (n : ℕ) → Padded (t ++ replicate n blank) t
unfolding trimmed
padded_blanks [] n = blanks_empty n
padded_blanks (c ∷ t) n = ap (put_in_front c) (padded_blanks t n)

padded_joined : {t u : List ℕ} → BlanksBehind t u → Padded t u
padded_joined {u} b = ap trimmed b.joined ∙ padded_blanks u b.number

-- a text is its trimmed text with blanks behind
pub trimmed_blanks : (t : List ℕ) → BlanksBehind t (trimmed t)
unfolding trimmed put_in_front
trimmed_blanks [] = record { number = 0; joined = refl }
trimmed_blanks (c ∷ t) = step (trimmed t) (trimmed_blanks t)
  where
    kept : (s : List ℕ) → BlanksBehind t s → BlanksBehind (c ∷ t) (c ∷ s)
    kept s b = record { number = b.number; joined = ap (λ (l : List ℕ). c ∷ l) b.joined }

    alone : (z : Bool) → eqb c blank ≡ z → BlanksBehind t [] → BlanksBehind (c ∷ t) (elim z [ true ↦ [] | false ↦ c ∷ [] ])
    alone true e b = record { number = suc b.number; joined = ap₂ ◌∷◌ (eqb-true c blank e) b.joined }
    alone false e b = kept [] b

    step : (s : List ℕ) → BlanksBehind t s → BlanksBehind (c ∷ t) (put_in_front c s)
    step [] b = alone (eqb c blank) refl b
    step (d ∷ s) b = kept (d ∷ s) b

pub trimmed_twice : (t : List ℕ) → trimmed (trimmed t) ≡ trimmed t
trimmed_twice t = sym (padded_joined (trimmed_blanks t))

-- ---- padded-equal: one is the other with blanks behind

pub behind_padded : {t u : List ℕ} → BlanksBehind t u ⊎ BlanksBehind u t → Padded t u
behind_padded (inl b) = padded_joined b
behind_padded (inr b) = sym (padded_joined b)

-- of a text with blanks behind twice, the one with more blanks is the other with blanks behind
more_blanks : (s : List ℕ) {t u : List ℕ} (n m : ℕ) → m ≤ n → t ≡ s ++ replicate n blank → u ≡ s ++ replicate m blank → BlanksBehind t u
more_blanks s n m h p q =
    let parts : n ≡ m + (n - m) = omega arith in
    let split : replicate n blank ≡ replicate m blank ++ replicate (n - m) blank
    = ap (λ (k : ℕ). replicate k blank) parts ∙ sym (replicate-append-replicate m (n - m) blank) in
    record {
      number = n - m;
      joined = p ∙ ap (λ (l : List ℕ). s ++ l) split ∙ sym (append_assoc s _ _) ∙ ap (λ (l : List ℕ). l ++ replicate (n - m) blank) (sym q);
    }

pub padded_behind : {t u : List ℕ} → Padded t u → BlanksBehind t u ⊎ BlanksBehind u t
padded_behind {t} {u} e = ⊎_elim (λ h. inr (more_blanks (trimmed u) _ _ (le_of_lt h) q p)) (λ h. inl (more_blanks (trimmed u) _ _ h p q)) (lt_or_le n m)
  where
    n : ℕ
    n = (trimmed_blanks t).number

    m : ℕ
    m = (trimmed_blanks u).number

    p : t ≡ trimmed u ++ replicate n blank
    p = (trimmed_blanks t).joined ∙ ap (λ (l : List ℕ). l ++ replicate n blank) e

    q : u ≡ trimmed u ++ replicate m blank
    q = (trimmed_blanks u).joined

-- ---- blanks that are not at the end count

pub leading_counts : Padded (32 ∷ (97 ∷ [])) (97 ∷ []) → ⊥
unfolding trimmed put_in_front
leading_counts e = let z : ◌≡◌ {A = ℕ} 32 97 = cc in omega arith

pub inner_counts : Padded (97 ∷ (32 ∷ (98 ∷ []))) (97 ∷ (98 ∷ [])) → ⊥
unfolding trimmed put_in_front
inner_counts e = let z : ◌≡◌ {A = ℕ} 32 98 = cc in omega arith

-- a trimmed text is no longer than the text
not_longer : (t : List ℕ) → length (trimmed t) ≤ length t
not_longer t =
    let b = trimmed_blanks t in
    let e : length t ≡ length (trimmed t) + length (replicate b.number blank) = ap length b.joined ∙ length-append (trimmed t) (replicate b.number blank) in
    omega arith

-- a blank at its end would be dropped too
pub none_left : (t u : List ℕ) → trimmed t ≡ u ++ (blank ∷ []) → ⊥
none_left t u e =
    let again : trimmed u ≡ u ++ (blank ∷ []) = sym (padded_blanks u 1) ∙ ap trimmed (sym e) ∙ trimmed_twice t ∙ e in
    let short = not_longer u in
    let long : length (trimmed u) ≡ length u + 1 = ap length again ∙ length-append u (blank ∷ []) in
    omega arith

-- ---- the orders drop none

pub orders_count : (t : List ℕ) (n : ℕ) → Before t (t ++ replicate (n + 1) blank)
orders_count t n = subst (λ (k : ℕ). Before t (t ++ replicate k blank)) (let e : suc n ≡ n + 1 = omega arith in e) (before_itself t (replicate n blank) blank)

pub orders_count_back : (t : List ℕ) (n : ℕ) → AtMost (t ++ replicate (n + 1) blank) t → ⊥
orders_count_back t n p = not_back t (replicate n blank) blank (subst (λ (k : ℕ). AtMost (t ++ replicate k blank) t) (let e : n + 1 ≡ suc n = omega arith in e) p)
