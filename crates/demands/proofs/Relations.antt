-- What holds of every relation of two texts in which equal texts stand,
-- against equality to the letter. Assumes nothing.
use mathlib.Core.Path.{◌≡◌, refl, sym, ◌∙◌, subst₂}
use mathlib.Core.List.{List}
use Prim.Native.Nat.{ℕ}
use lib.ListN.{length}
use lib.Seq.{take_at, drop_at}
use Rattle.shapes.specs.Shape.{Block}
use Rattle.shapes.specs.Lent.{shape_of}
use Rattle.hulls.specs.Hull.{Pairs, Satisfies}
use Rattle.hulls.specs.Book.{Within}
use Rattle.hulls.proofs.Order.{within_take, within_drop}
use Rattle.hulls.proofs.Hull.{hull_within, hull_or_none, fewer_none, fewer_within}
use Rattle.pairs.specs.Pair.{PairAccepted}
use Rattle.pairs.specs.Narrow.{Narrows, NarrowPromise}
use Rattle.demands.specs.Call.{new_shape, narrowing}
use Rattle.demands.specs.Request5.{BesideExact}
use Rattle.demands.proofs.Narrowed.{left_first, left_second}

-- what is left lies within what was entered
pub left_within : {R : List ℕ → List ℕ → Type 0} {xs ys ox oy ox' oy' : List ℕ} → PairAccepted xs ys → Narrows R xs ys ox oy ox' oy'
    → Within (new_shape xs ox') (shape_of xs) × Within (new_shape ys oy') (shape_of ys)
left_within {xs = xs} {ys = ys} a n =
    let w = hull_within n.hull in
    let size = length (shape_of xs) in (
      subst₂ Within (take_at n.first n.second size n.size ∙ sym (left_first n a)) (take_at (shape_of xs) (shape_of ys) size refl) (within_take size w),
      subst₂ Within (drop_at n.first n.second size n.size ∙ sym (left_second n a)) (drop_at (shape_of xs) (shape_of ys) size refl) (within_drop size w),
    )

-- ---- a relation in which equal texts stand

module _ (R : List ℕ → List ℕ → Type 0) (equal : (t u : List ℕ) → t ≡ u → R t u) where
  -- the pairs of kind 4 are among its own
  among : (n : ℕ) {S : List Block} (f : List (List ℕ)) → Satisfies (Pairs (λ t u. t ≡ u) n) S f → Satisfies (Pairs R n) S f
  among n f s = record { filling = s.filling; rule = equal _ _ s.rule }

  pub beside_exact : BesideExact (narrowing (NarrowPromise R)).Promise
  beside_exact = record {
    none_of_both = λ {s} p q. hull_or_none q.1.hull (fewer_none (among (length (shape_of s.x))) p.1.none);
    keeps_more = λ {s} p q.
        let more = p.1 in
        let less = q.1 in
        let size = length (shape_of s.x) in
        let w = fewer_within refl (among size) less.hull more.hull in
        let a = p.0.shapes in (
          subst₂ Within (take_at less.first less.second size less.size ∙ sym (left_first less a))
              (take_at more.first more.second size more.size ∙ sym (left_first more a)) (within_take size w),
          subst₂ Within (drop_at less.first less.second size less.size ∙ sym (left_second less a))
              (drop_at more.first more.second size more.size ∙ sym (left_second more a)) (within_drop size w),
        );
  }
