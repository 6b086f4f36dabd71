-- All ways of running a book agree: the blocks left are the widest stable ones, and no choice is lost. Assumes nothing.
use mathlib.Core.Path.{◌≡◌, refl, sym, ap}
use mathlib.Core.List.{List}
use Prim.Native.Nat.{ℕ, ◌<◌}
use Rattle.shapes.specs.Shape.{Block, Filling}
use Rattle.hulls.specs.Hull.{Outcome, none, shapes}
use Rattle.hulls.specs.Book.{Within, Stable, Runs, stop_none, stop, apply, Widest, Among}
use Rattle.hulls.proofs.Order.{within_refl, within_trans, within_antisym}
use Rattle.hulls.proofs.Hull.{hull_or_none, hull_within, keeps, monotone, none_within, same_rule}

-- what a run from S that ends with an outcome says of the stable blocks within S
Ends : ℕ → (ℕ → List (List ℕ) → Type 0) → List Block → Outcome → Type 0
Ends n P S none = (Z : List Block) → Stable n P Z → Within Z S → ⊥
Ends n P S (shapes H) = Widest n P S H

ends_before : {n : ℕ} {P : ℕ → List (List ℕ) → Type 0} {S H : List Block} (o : Outcome)
    → ((Z : List Block) → Stable n P Z → Within Z S → Within Z H) → Within H S → Ends n P H o → Ends n P S o
unfolding Ends
ends_before none stays v e = λ Z z w. e Z z (stays Z z w)
ends_before (shapes K) stays v e = record {
  stable = e.stable;
  within = within_trans e.within v;
  widest = λ Z z w. e.widest Z z (stays Z z w);
}

ends : {n : ℕ} {P : ℕ → List (List ℕ) → Type 0} {S : List Block} {o : Outcome} → Runs n P S o → Ends n P S o
unfolding Ends
ends (stop_none k l m) = λ Z z w. hull_or_none (z.each k l) (none_within w m)
ends (stop {S} st) = record { stable = st; within = within_refl S; widest = λ Z z w. w }
ends {o} (apply k l h r) = ends_before o (λ Z z w. monotone w (z.each k l) h) (hull_within h) (ends r)

-- ---- one book

module _ {n : ℕ} {P : ℕ → List (List ℕ) → Type 0} {S : List Block} where
  pub ends_none : Runs n P S none → (Z : List Block) → Stable n P Z → Within Z S → ⊥
  unfolding Ends
  ends_none r = ends r

  pub ends_widest : {H : List Block} → Runs n P S (shapes H) → Widest n P S H
  unfolding Ends
  ends_widest r = ends r

-- a choice that satisfies every rule is still a choice at the end
pub none_lost : {n : ℕ} {P : ℕ → List (List ℕ) → Type 0} {S : List Block} {o : Outcome} {f : List (List ℕ)}
    → Filling S f → ((k : ℕ) → k < n → P k f) → Runs n P S o → (H : List Block) × (o ≡ shapes H) × Filling H f
none_lost {f} s p (stop_none k l m) = absurd (m.never f (record { filling = s; rule = p k l }))
none_lost s p (stop st) = (_, refl, s)
none_lost s p (apply k l h r) = none_lost (keeps (record { filling = s; rule = p k l }) h).filling p r

-- ---- two books

module _ {n m : ℕ} {P Q : ℕ → List (List ℕ) → Type 0} (a : Among n P m Q) where
  -- what is stable under more rules is stable under fewer
  pub stable_fewer : {S : List Block} → Stable m Q S → Stable n P S
  stable_fewer st = record { each = λ k l. let x = a.each k l in same_rule (λ f s q. x.3 f q) (λ f s p. x.2 f p) (st.each x.0 x.1) }

  -- more rules and less room at the start never leave more room
  pub more_none : {S T : List Block} {o : Outcome} → Within T S → Runs n P S none → Runs m Q T o → o ≡ none
  more_none {o = none} w r t = refl
  more_none {o = shapes H} w r t = let x = ends_widest t in absurd (ends_none r H (stable_fewer x.stable) (within_trans x.within w))

  pub more_within : {S T H J : List Block} → Within T S → Runs n P S (shapes H) → Runs m Q T (shapes J) → Within J H
  more_within w r t = let x = ends_widest t in (ends_widest r).widest _ (stable_fewer x.stable) (within_trans x.within w)

-- books of the same rules, up to order and repetition, agree
pub books_agree : {n m : ℕ} {P Q : ℕ → List (List ℕ) → Type 0} {S : List Block} {o u : Outcome}
    → Among n P m Q → Among m Q n P → Runs n P S o → Runs m Q S u → o ≡ u
books_agree {S} {o = none} a b r t = sym (more_none a (within_refl S) r t)
books_agree {S} {o = shapes H} {u = none} a b r t = more_none b (within_refl S) t r
books_agree {S} {o = shapes H} {u = shapes K} a b r t = ap shapes (within_antisym (more_within b (within_refl S) t r) (more_within a (within_refl S) r t))

-- all runs of a book from S agree
pub runs_agree : {n : ℕ} {P : ℕ → List (List ℕ) → Type 0} {S : List Block} {o u : Outcome} → Runs n P S o → Runs n P S u → o ≡ u
runs_agree {n} {P} = let all : Among n P n P = record { each = λ k l. (k, l, (λ f p. p), (λ f p. p)) } in books_agree all all
