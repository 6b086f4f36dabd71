-- Numbers collected one after the other by a test, and words of an array set one after the other. Assumes nothing.
use mathlib.Core.Path.{◌≡◌, refl, sym, subst}
use mathlib.Core.Bool.{Bool, true, false}
use mathlib.Core.List.{List}
use mathlib.Core.Logic.{◌⊎◌, inl, inr, ⊎_elim}
use Prim.Native.Nat.{ℕ, ◌+◌, ◌<◌}
use native.Mathlib.Omega.{arith}
use lib.ListN.{length, get_or, set}
use lib.Seq.{get_or-set_same, get_or-set_other}
use Rattle.bases.specs.Base.{Holds, Empty}
use Rattle.bases.proofs.Laws.{none_in_zero}
use Rattle.plain.specs.Tells.{Tells}
use Rattle.plain.proofs.Plain.{lt_or_le, true_or_false}
use Rattle.sets.specs.Set.{Exactly}
use Rattle.find_borders.specs.Borders.{Collected}
use Rattle.sets.proofs.Exact.{held_or_not, none_exactly}

pub tells_as : {r : Bool} {P Q : Type 0} → (P → Q) → (Q → P) → Tells r P → Tells r Q
tells_as f g t = record { so = λ e. f (t.so e); not_so = λ e q. t.not_so e (g q) }

module _ (P : ℕ → Type 0) where
  -- from the first number on that may have it
  pub collect_none : {j : ℕ} → ((e : ℕ) → e < j → P e → ⊥) → Exactly 0 (λ e. (e < j) × P e)
  collect_none n = none_exactly refl (λ e h. n e h.0 h.1)

  pub collect_more : {w x j : ℕ} {yes : Bool} → Exactly w (λ e. (e < j) × P e) → Tells yes (P j) → Exactly x (λ e. Holds w e ⊎ ((e ≡ j) × (yes ≡ true))) → Exactly x (λ e. (e < j + 1) × P e)
  collect_more {w} {x} {j} {yes} a t b = record {
    so = λ e h. ⊎_elim
        (λ i. let p = a.so e i in let l = p.0 in (omega arith, p.1))
        (λ i. let z = i.0 in (omega arith, subst P (sym z) (t.so i.1)))
        (b.so e h);
    has = λ e h. b.has e (⊎_elim
        (λ l. inl (a.has e (l, h.1)))
        (λ l.
        let g = h.0 in
        let z : e ≡ j = omega arith in
        ⊎_elim (λ y. inr (z, y)) (λ y. absurd (t.not_so y (subst P z h.1))) (true_or_false yes))
        (lt_or_le e j));
  }

  pub collect_end : {w j n : ℕ} → j ≡ n → Exactly w (λ e. (e < j) × P e) → Exactly w (λ e. (e < n) × P e)
  collect_end {w} {j} {n} z a = subst (λ (k : ℕ). Exactly w (λ e. (e < k) × P e)) z a

-- the empty collection, one number more, and what the tests say of all
pub collected_none : {post : ℕ → Bool → Type 0} → Collected post 0 0
unfolding Empty
collected_none = record { so = λ e h. absurd (none_in_zero e h); not_so = λ e l n. absurd (omega arith) }

pub collected_more : {post : ℕ → Bool → Type 0} {w x j : ℕ} {yes : Bool} → Collected post j w → post j yes → Exactly x (λ e. Holds w e ⊎ ((e ≡ j) × (yes ≡ true))) → Collected post (j + 1) x
collected_more {post} {w} {x} {j} {yes} a t b = record {
  so = λ e h. ⊎_elim
      (λ i. let p = a.so e i in let l = p.0 in (omega arith, p.1))
      (λ i. let z = i.0 in (omega arith, subst (λ (k : ℕ). post k true) (sym z) (subst (post j) i.1 t)))
      (b.so e h);
  not_so = λ e l n. ⊎_elim
      (λ c. a.not_so e c (λ h. n (b.has e (inl h))))
      (λ c.
      let z : e ≡ j = omega arith in
      ⊎_elim
      (λ y. absurd (n (b.has e (inr (z, y)))))
      (λ y. subst (λ (k : ℕ). post k false) (sym z) (subst (post j) y t))
      (true_or_false yes))
      (lt_or_le e j);
}

pub collected : {post : ℕ → Bool → Type 0} {P : ℕ → Type 0} {n w : ℕ} → Collected post n w → ((q : ℕ) (r : Bool) → q < n → post q r → Tells r (P q)) → Exactly w (λ e. (e < n) × P e)
collected {post} {P} {n} {w} a t = record {
  so = λ e h. let p = a.so e h in (p.0, (t e true p.0 p.1).so refl);
  has = λ e p. ⊎_elim (λ h. h) (λ h. absurd ((t e false p.0 (a.not_so e p.0 h)).not_so refl p.1)) (held_or_not w e);
}

-- what holds of each word below j, and of the word that is set, holds of each below j + 1
pub words_more : (P : ℕ → ℕ → Type 0) (w : List ℕ) (j s : ℕ) → j < length w → ((i : ℕ) → i < j → P i (get_or w i 0)) → P j s → (i : ℕ) → i < j + 1 → P i (get_or (set w j s) i 0)
words_more P w j s l f h i g = ⊎_elim
    (λ c. subst (P i) (sym (get_or-set_other w j i s 0 (λ z. omega arith))) (f i c))
    (λ c. let same : i ≡ j = omega arith in subst (λ (x : ℕ). P x (get_or (set w j s) x 0)) (sym same) (subst (P j) (sym (get_or-set_same w j s 0 l)) h))
    (lt_or_le i j)
