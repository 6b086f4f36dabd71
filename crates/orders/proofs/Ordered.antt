-- X at most (before) Y asks of X that its text is at most (before) the greatest text of Y, and of Y that its text is at
-- least (after) the least of X. Assumes nothing.
use mathlib.Core.Path.{refl, sym, subst}
use mathlib.Core.List.{List, ◌++◌}
use Prim.Native.Nat.{ℕ}
use lib.ListN.{length}
use Rattle.shapes.specs.Shape.{Block, Filling, Fits, text_of}
use Rattle.texts.specs.Order.{AtMost, Before}
use Rattle.texts.proofs.Order.{at_most_trans, before_trans, before_trans'}
use Rattle.extreme_steps.specs.declared.Direction.TheVariants.{Least, Greatest}
use Rattle.extremes.specs.Extreme.{Extreme}
use Rattle.hulls.specs.Hull.{Pairs, None, Hull}
use Rattle.hulls.proofs.Fill.{pairs, filling_size, split_first, split_second}
use Rattle.hulls.proofs.Sides.{sides}
use Rattle.extremes.proofs.Order.{of_least, of_greatest}
use Rattle.orders.specs.Ordered.{Ordered}

pub at_most_ordered : Ordered AtMost
at_most_ordered = record { earlier = λ t u v p q. at_most_trans p q; later = λ t u v p q. at_most_trans p q }

pub before_ordered : Ordered Before
before_ordered = record { earlier = λ t u v p q. before_trans' p q; later = λ t u v p q. before_trans p q }

pub fitting : {S : List Block} {f : List (List ℕ)} → Filling S f → Fits S (text_of f)
fitting {f = f} x = record { runs = f; filling = x; joined = refl }

module _ (R : List ℕ → List ℕ → Type 0) (o : Ordered R) {X Y : List Block} (m M : List ℕ) (least : Extreme Least X m) (greatest : Extreme Greatest Y M) where
  -- a text of X is at least m, a text of Y at most M
  above : (f : List (List ℕ)) → Filling X f → AtMost m (text_of f)
  above f x = of_least (least.first _ (fitting x))

  below : (g : List (List ℕ)) → Filling Y g → AtMost (text_of g) M
  below g y = of_greatest (greatest.first _ (fitting y))

  pub order_hull : {X' Y' : List Block} → Hull (λ f. R (text_of f) M) X X' → Hull (λ g. R m (text_of g)) Y Y' → Hull (Pairs R (length X)) (X ++ Y) (X' ++ Y')
  order_hull = sides
      (λ f g x y p. o.later _ _ _ ((pairs R f g (length X) (filling_size x)).0 p) (below g y))
      (λ f g x y p. o.earlier _ _ _ (above f x) ((pairs R f g (length X) (filling_size x)).0 p))
      (λ f s. (
        greatest.fits.runs,
        greatest.fits.filling,
        (pairs R f _ (length X) (filling_size s.filling)).1 (subst (R (text_of f)) (sym greatest.fits.joined) s.rule),
      ))
      (λ g s. (
        least.fits.runs,
        least.fits.filling,
        (pairs R _ g (length X) (filling_size least.fits.filling)).1 (subst (λ (t : List ℕ). R t (text_of g)) (sym least.fits.joined) s.rule),
      ))

  pub order_none : (R m M → ⊥) → None (Pairs R (length X)) (X ++ Y)
  order_none n = record { never = λ f s. n (o.earlier _ _ _ (above _ (split_first X Y s.filling)) (o.later _ _ _ s.rule (below _ (split_second X Y s.filling)))) }
