-- A join's promise determines the answer, the work and all three outputs. Assumes nothing.
use mathlib.Core.Path.{◌≡◌, refl, sym, ap, ◌∙◌}
use mathlib.Core.List.{List, ◌++◌}
use Prim.Native.Nat.{ℕ}
use native.Mathlib.Omega.{arith}
use lib.ListN.{length, take, drop, length-append}
use lib.Seq.{take_at, drop_at}
use Rattle.std.specs.Prelude.{Result, Ok, Err}
use Rattle.answers.specs.declared.Refusal.{Refusal}
use Rattle.answers.specs.declared.Narrowed.{Narrowed}
use Rattle.answers.specs.declared.Narrowed.TheVariants.{Narrow, None as no-triple}
use Rattle.answers.proofs.Told.{told_one}
use Rattle.shapes.specs.Shape.{Block}
use Rattle.shapes.specs.Lent.{shape_of, words_of}
use Rattle.hulls.proofs.Hull.{one_hull, hull_or_none}
use Rattle.joins.specs.Join.{JoinNarrows, JoinPromise}
use Rattle.joins.proofs.Refused.{join_refused_one, join_refused_not}

-- lists end to end, cut where the first ends
pub apart : {A : Type 0} (a b c d : List A) (n : ℕ) → length a ≡ n → length c ≡ n → a ++ b ≡ c ++ d → (a ≡ c) × (b ≡ d)
apart a b c d n e f p = (
  sym (take_at a b n e) ∙ ap (take n) p ∙ take_at c d n f,
  sym (drop_at a b n e) ∙ ap (drop n) p ∙ drop_at c d n f,
)

-- what is left of the third shape has its blocks too
pub size_third : {xs ys zs ox oy oz ox' oy' oz' : List ℕ} (n : JoinNarrows xs ys zs ox oy oz ox' oy' oz') → length n.third ≡ length (shape_of zs)
size_third {xs} {ys} {zs} n =
    let a = length-append n.first (n.second ++ n.third) in
    let b = length-append (shape_of xs) (shape_of ys ++ shape_of zs) in
    let c = length-append n.second n.third in
    let d = length-append (shape_of ys) (shape_of zs) in
    let h = n.hull.size in
    let e = n.size_first in
    let f = n.size_second in
    omega arith

module _ (xs ys zs ox oy oz : List ℕ) where
  pub join_narrows_one : {ox' oy' oz' ox'' oy'' oz'' : List ℕ} → JoinNarrows xs ys zs ox oy oz ox' oy' oz' → JoinNarrows xs ys zs ox oy oz ox'' oy'' oz''
      → (ox' ≡ ox'') × (oy' ≡ oy'') × (oz' ≡ oz'')
  join_narrows_one p q =
      let one = apart p.first _ q.first _ (length (shape_of xs)) p.size_first q.size_first (one_hull p.hull q.hull) in
      let two = apart p.second p.third q.second q.third (length (shape_of ys)) p.size_second q.size_second one.1 in (
        p.first_output ∙ ap (λ (s : List Block). words_of s ++ drop (length xs) ox) one.0 ∙ sym q.first_output,
        p.second_output ∙ ap (λ (s : List Block). words_of s ++ drop (length ys) oy) two.0 ∙ sym q.second_output,
        p.third_output ∙ ap (λ (s : List Block). words_of s ++ drop (length zs) oz) two.1 ∙ sym q.third_output,
      )

module _ (xs ys zs work ox oy oz : List ℕ) {work' ox' oy' oz' work'' ox'' oy'' oz'' : List ℕ} where
  pub join_determined : (r s : Result Narrowed Refusal) → JoinPromise xs ys zs work ox oy oz work' ox' oy' oz' r → JoinPromise xs ys zs work ox oy oz work'' ox'' oy'' oz'' s
      → (r ≡ s) × (work' ≡ work'') × (ox' ≡ ox'') × (oy' ≡ oy'') × (oz' ≡ oz'')
  join_determined (Ok Narrow) (Ok Narrow) p q =
      let o = join_narrows_one xs ys zs ox oy oz p.1 q.1 in (refl, p.0.work_cleared ∙ sym q.0.work_cleared, o.0, o.1, o.2)
  join_determined (Ok Narrow) (Ok no-triple) p q = absurd (hull_or_none p.1.hull q.1.none)
  join_determined (Ok Narrow) (Err s) p q = absurd (join_refused_not q.0 p.0.shapes p.0.room)
  join_determined (Ok no-triple) (Ok Narrow) p q = absurd (hull_or_none q.1.hull p.1.none)
  join_determined (Ok no-triple) (Ok no-triple) p q = (
    refl,
    p.0.work_cleared ∙ sym q.0.work_cleared,
    p.1.first_output ∙ sym q.1.first_output,
    p.1.second_output ∙ sym q.1.second_output,
    p.1.third_output ∙ sym q.1.third_output,
  )
  join_determined (Ok no-triple) (Err s) p q = absurd (join_refused_not q.0 p.0.shapes p.0.room)
  join_determined (Err r) (Ok Narrow) p q = absurd (join_refused_not p.0 q.0.shapes q.0.room)
  join_determined (Err r) (Ok no-triple) p q = absurd (join_refused_not p.0 q.0.shapes q.0.room)
  join_determined (Err r) (Err s) p q = (
    ap Err (told_one r s (join_refused_one p.0 q.0)),
    p.1.work_kept ∙ sym q.1.work_kept,
    p.1.first_kept ∙ sym q.1.first_kept,
    p.1.second_kept ∙ sym q.1.second_kept,
    p.1.third_kept ∙ sym q.1.third_kept,
  )
