-- Ranges: which are not inside, an empty one, and what numbers left over behind the last whole block change, which is
-- nothing. Assumes nothing.
use mathlib.Core.Path.{◌≡◌, refl, sym, ap, ap₂, ◌∙◌, subst, subst₂}
use mathlib.Core.List.{List, [], ◌∷◌, ◌++◌}
use mathlib.Core.Logic.{◌⊎◌, inl, inr, ◌↔◌}
use Prim.Native.Nat.{ℕ, ◌-◌, ◌*◌, ◌%◌, ◌≤◌, ◌<◌}
use native.Mathlib.Omega.{arith}
use lib.ListN.{length, take, drop, length-append, length-drop}
use lib.Seq.{drop-append-le, take-append-le}
use Rattle.std.specs.Prelude.{Ok}
use Rattle.answers.specs.Told.{Told, tell}
use Rattle.answers.specs.Turns.{here, later}
use Rattle.answers.specs.declared.AnswerRecord.{AnswerRecord}
use Rattle.plain.proofs.Plain.{lt_or_le}
use Rattle.plain.proofs.Items.{item_behind}
use Rattle.shapes.specs.Shape.{block_size, block_count}
use Rattle.shapes.specs.Lent.{shape_of, ShapeRefused}
use Rattle.pairs.specs.Pair.{PairAccepted, PairRefused}
use Rattle.sweep_steps.specs.Steps.{sweep_of}
use Rattle.sweep_passes.specs.Read.{swept_of}
use Rattle.tray_pairs.specs.Judged.{recorded, RecordRefused, Judged}
use Rattle.tray_pairs.specs.Judged.Judged.{swept, refused}
use Rattle.tray_pairs.specs.Ranges.{pair_size, pair_at, range, pair_from, RangeInside, lent_in}
use Rattle.tray_pairs.specs.declared.Pair.{Pair}
use Rattle.tray_pairs.specs.declared.Range.{Range}

pub inside_or : (n : ℕ) (r : Range) → RangeInside n r ⊎ ((r.past < r.first) ⊎ (n < r.past))
inside_or n r = go (lt_or_le r.past r.first) (lt_or_le n r.past)
  where
    go : (r.past < r.first) ⊎ (r.first ≤ r.past) → (n < r.past) ⊎ (r.past ≤ n) → RangeInside n r ⊎ ((r.past < r.first) ⊎ (n < r.past))
    go (inl b) _ = inr (inl b)
    go (inr f) (inl l) = inr (inr l)
    go (inr f) (inr w) = inl (record { forward = f; within = w })

pub not_inside : {n : ℕ} {r : Range} → (r.past < r.first) ⊎ (n < r.past) → RangeInside n r → ⊥
not_inside (inl b) i = let f = i.forward in omega arith
not_inside (inr l) i = let w = i.within in omega arith

pub outside : (n : ℕ) (r : Range) → (RangeInside n r → ⊥) ↔ ((r.past < r.first) ⊎ (n < r.past))
outside n r = ((λ o. go o (inside_or n r)), not_inside)
  where
    go : (RangeInside n r → ⊥) → RangeInside n r ⊎ ((r.past < r.first) ⊎ (n < r.past)) → (r.past < r.first) ⊎ (n < r.past)
    go o (inl i) = absurd (o i)
    go o (inr h) = h

-- an empty range holds no shape, since it has no block
pub empty_refused : (n : ℕ) (blocks : List ℕ) (r : Range) (t : Told) → r.first ≡ r.past → t ≡ tell 1 n 0 → ShapeRefused n (lent_in blocks r) t
empty_refused n blocks r t e told =
    let none : (r.past - r.first) * block_size ≡ 0 = omega (arith, e) in
    subst (λ (m : ℕ). ShapeRefused n (take m (drop (r.first * block_size) blocks)) t) (sym none) (here (record { lacking = λ l. let s = l.some in omega arith; tells = told }))

-- what stands behind i pairs
pub four_numbers : (front rest : List ℕ) (i a b c d : ℕ) → length front ≡ i * 4 → pair_at (front ++ a ∷ b ∷ c ∷ d ∷ rest) i ≡ record { x = range a b; y = range c d }
four_numbers front rest i a b c d long = ap pair_from (item_behind pair_size front (a ∷ b ∷ c ∷ d ∷ []) rest i long refl)

-- ---- numbers left over

module _ (xs zs : List ℕ) (whole : length xs % block_size ≡ 0) (few : length zs < block_size) where
  same_count : block_count (xs ++ zs) ≡ block_count xs
  same_count = let l = length-append xs zs in omega (arith, l, whole, few)

  same_lent : (r : Range) → RangeInside (block_count xs) r → lent_in (xs ++ zs) r ≡ lent_in xs r
  same_lent r i =
      let f = i.forward in
      let w = i.within in
      let d = length-drop (r.first * block_size) xs in
      let start : r.first * block_size ≤ length xs = omega arith in
      let end : (r.past - r.first) * block_size ≤ length (drop (r.first * block_size) xs) = omega (arith, d) in
      ap (take ((r.past - r.first) * block_size)) (drop-append-le (r.first * block_size) xs zs start)
      ∙ take-append-le ((r.past - r.first) * block_size) (drop (r.first * block_size) xs) zs end

  here_too : (r : Range) → RangeInside (block_count (xs ++ zs)) r → RangeInside (block_count xs) r
  here_too r i = subst (λ (n : ℕ). RangeInside n r) same_count i

  there_too : (r : Range) → RangeInside (block_count xs) r → RangeInside (block_count (xs ++ zs)) r
  there_too r i = subst (λ (n : ℕ). RangeInside n r) (sym same_count) i

  same_refusal : (p : Pair) {t : Told} → RecordRefused (xs ++ zs) p t → RecordRefused xs p t
  same_refusal p (here u) = here (record { lacking = λ i. u.lacking (there_too p.x i); tells = u.tells })
  same_refusal p (later i (here u)) = later (here_too p.x i) (here (record { lacking = λ j. u.lacking (there_too p.y j); tells = u.tells }))
  same_refusal p {t} (later i (later j d)) =
      let a = here_too p.x i in
      let b = here_too p.y j in
      later a (later b (subst₂ (λ (us vs : List ℕ). PairRefused us vs t) (same_lent p.x a) (same_lent p.y b) d))

  pub left_over : (p : Pair) {r : AnswerRecord} → Judged (xs ++ zs) p r → Judged xs p r
  left_over p (refused q d e) = refused q (same_refusal p d) e
  left_over p (swept a e) =
      let i = here_too p.x a.first in
      let j = here_too p.y a.second in
      let x = same_lent p.x i in
      let y = same_lent p.y j in
      swept (record { first = i; second = j; shapes = subst₂ PairAccepted x y a.shapes })
      (e ∙ ap₂ (λ (us vs : List ℕ). recorded (Ok (swept_of (sweep_of (shape_of us) (shape_of vs))))) x y)
