-- Narrowing's promise determines the answer, both outputs and the work, for every relation. Assumes nothing.
use mathlib.Core.Path.{◌≡◌, refl, sym, ap, ◌∙◌}
use mathlib.Core.List.{List, ◌++◌}
use Prim.Native.Nat.{ℕ}
use native.Mathlib.Omega.{arith}
use lib.ListN.{length, take, drop, length-append}
use lib.Seq.{take_at, drop_at}
use Rattle.std.specs.Prelude.{Result, Ok, Err}
use Rattle.answers.specs.declared.Refusal.{Refusal}
use Rattle.answers.specs.declared.Narrowed.{Narrowed}
use Rattle.answers.specs.declared.Narrowed.TheVariants.{Narrow, None as no_pair}
use Rattle.answers.proofs.Told.{told_one}
use Rattle.shapes.specs.Shape.{Block}
use Rattle.shapes.specs.Lent.{shape_of, words_of}
use Rattle.hulls.proofs.Hull.{one_hull, hull_or_none}
use Rattle.pairs.specs.Narrow.{Narrows, NarrowPromise}
use Rattle.pairs.proofs.Pair.{narrow_one, narrow_not}

-- what is left of the second shape has its blocks too
pub size_second : {R : List ℕ → List ℕ → Type 0} {xs ys ox oy ox' oy' : List ℕ} (n : Narrows R xs ys ox oy ox' oy') → length n.second ≡ length (shape_of ys)
size_second {xs = xs} {ys = ys} n =
    let a = length-append n.first n.second in
    let b = length-append (shape_of xs) (shape_of ys) in
    let c = n.hull.size in
    let e = n.size in
    omega arith

module _ (R : List ℕ → List ℕ → Type 0) (xs ys ox oy : List ℕ) where
  -- the hull cut where the first shape ends
  one_first : {ox' oy' ox'' oy'' : List ℕ} (p : Narrows R xs ys ox oy ox' oy') (q : Narrows R xs ys ox oy ox'' oy'') → p.first ≡ q.first
  one_first p q = sym (take_at p.first p.second _ p.size) ∙ ap (take (length (shape_of xs))) (one_hull p.hull q.hull) ∙ take_at q.first q.second _ q.size

  one_second : {ox' oy' ox'' oy'' : List ℕ} (p : Narrows R xs ys ox oy ox' oy') (q : Narrows R xs ys ox oy ox'' oy'') → p.second ≡ q.second
  one_second p q = sym (drop_at p.first p.second _ p.size) ∙ ap (drop (length (shape_of xs))) (one_hull p.hull q.hull) ∙ drop_at q.first q.second _ q.size

  pub narrows_one : {ox' oy' ox'' oy'' : List ℕ} → Narrows R xs ys ox oy ox' oy' → Narrows R xs ys ox oy ox'' oy'' → (ox' ≡ ox'') × (oy' ≡ oy'')
  narrows_one p q = (
    p.first_output ∙ ap (λ (s : List Block). words_of s ++ drop (length xs) ox) (one_first p q) ∙ sym q.first_output,
    p.second_output ∙ ap (λ (s : List Block). words_of s ++ drop (length ys) oy) (one_second p q) ∙ sym q.second_output,
  )

-- an outcome of narrowing: what is handed back, and the answer
pub record Outcome : Type 0 where
  pub work : List ℕ
  pub first : List ℕ
  pub second : List ℕ
  pub answer : Result Narrowed Refusal

outcome_path : {p q : Outcome} → p.work ≡ q.work → p.first ≡ q.first → p.second ≡ q.second → p.answer ≡ q.answer → p ≡ q
outcome_path a b c d = λ i. record { work = a i; first = b i; second = c i; answer = d i }

module _ (R : List ℕ → List ℕ → Type 0) (xs ys work ox oy : List ℕ) where
  abbrev pub Permits : Outcome → Type 0
  Permits o = NarrowPromise R xs ys work ox oy o.work o.first o.second o.answer

  go : (a b : Result Narrowed Refusal) (w w' x x' y y' : List ℕ) → NarrowPromise R xs ys work ox oy w x y a → NarrowPromise R xs ys work ox oy w' x' y' b
      → ◌≡◌ {A = Outcome} (record { work = w; first = x; second = y; answer = a }) (record { work = w'; first = x'; second = y'; answer = b })
  go (Ok Narrow) (Ok Narrow) w w' x x' y y' p q =
      let o = narrows_one R xs ys ox oy p.1 q.1 in outcome_path (p.0.work_cleared ∙ sym q.0.work_cleared) o.0 o.1 refl
  go (Ok Narrow) (Ok no_pair) w w' x x' y y' p q = absurd (hull_or_none p.1.hull q.1.none)
  go (Ok Narrow) (Err s) w w' x x' y y' p q = absurd (narrow_not q.0 p.0.shapes p.0.room)
  go (Ok no_pair) (Ok Narrow) w w' x x' y y' p q = absurd (hull_or_none q.1.hull p.1.none)
  go (Ok no_pair) (Ok no_pair) w w' x x' y y' p q =
      outcome_path (p.0.work_cleared ∙ sym q.0.work_cleared) (p.1.first_output ∙ sym q.1.first_output) (p.1.second_output ∙ sym q.1.second_output) refl
  go (Ok no_pair) (Err s) w w' x x' y y' p q = absurd (narrow_not q.0 p.0.shapes p.0.room)
  go (Err r) (Ok Narrow) w w' x x' y y' p q = absurd (narrow_not p.0 q.0.shapes q.0.room)
  go (Err r) (Ok no_pair) w w' x x' y y' p q = absurd (narrow_not p.0 q.0.shapes q.0.room)
  go (Err r) (Err s) w w' x x' y y' p q =
      outcome_path (p.1.work_kept ∙ sym q.1.work_kept) (p.1.first_kept ∙ sym q.1.first_kept) (p.1.second_kept ∙ sym q.1.second_kept)
      (ap Err (told_one r s (narrow_one p.0 q.0)))

  pub narrow_determined : (p q : Outcome) → Permits p → Permits q → p ≡ q
  narrow_determined p q h k = go p.answer q.answer p.work q.work p.first q.first p.second q.second h k
