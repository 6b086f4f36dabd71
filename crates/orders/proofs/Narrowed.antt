-- Both sides narrowed, each by the extreme text of the other: what that leaves is the narrowing of the two. Assumes
-- nothing.
use mathlib.Core.Path.{◌≡◌, refl, sym, ap, ◌∙◌, subst}
use mathlib.Core.Bool.{Bool, true, false}
use mathlib.Core.List.{List}
use Prim.Native.Nat.{ℕ}
use lib.ListN.{take, drop}
use lib.Seq.{take_at}
use Rattle.shapes.specs.Shape.{Block, text_of}
use Rattle.shapes.specs.Lent.{shape_of}
use Rattle.texts.specs.Order.{AtMost, Before}
use Rattle.extreme_steps.specs.declared.Direction.{Direction}
use Rattle.extreme_steps.specs.declared.Direction.TheVariants.{Least, Greatest}
use Rattle.extreme_steps.specs.Steps.{extreme}
use Rattle.extremes.specs.Extreme.{Extreme, TextWritten}
use Rattle.hulls.specs.Hull.{None, Hull}
use Rattle.hulls.proofs.Hull.{same_rule}
use Rattle.pairs.specs.Narrow.{Narrows, NarrowAnswer}
use Rattle.order_guides.specs.Sides.{Side}
use Rattle.order_guides.proofs.Sides.{side_at_most, at_most_side, side_before, before_side, side_at_least, at_least_side, side_after, after_side}
use Rattle.order_by_text.specs.Narrowed.{OneNarrowed, One}
use Rattle.plain.proofs.Plain.{true_false}
use Rattle.extremes.proofs.Order.{of_least}
use Rattle.orders.specs.Ordered.{Ordered}
use Rattle.orders.proofs.Ordered.{at_most_ordered, before_ordered, fitting, order_hull, order_none}

-- ---- the text of the other side

module _ {e : Direction} {x out out' : List ℕ} {n : ℕ} (w : TextWritten e x out out' n) where
  pub text_taken : take n out' ≡ extreme e (shape_of x)
  text_taken = ap (take n) w.bytes ∙ take_at (extreme e (shape_of x)) (drop n out) n (sym w.length_is)

pub one_by : {d : Direction} {strict : Bool} {T U x out out' : List ℕ} {r : Bool} → T ≡ U → One (λ f. Side d strict (text_of f) T) x out out' r → One (λ f. Side d strict (text_of f) U) x out out' r
one_by {d} {strict} {x = x} {out} {out'} {r} e o = subst (λ (z : List ℕ). One (λ f. Side d strict (text_of f) z) x out out' r) e o

-- ---- a relation that both sides see

pub record Faced (R : List ℕ → List ℕ → Type 0) (strict : Bool) : Type 0 where
  pub ordered : Ordered R
  pub first : (t u : List ℕ) → Side Least strict t u → R t u
  pub first_back : (t u : List ℕ) → R t u → Side Least strict t u
  pub second : (t u : List ℕ) → Side Greatest strict t u → R u t
  pub second_back : (t u : List ℕ) → R u t → Side Greatest strict t u

pub at_most_faced : {strict : Bool} → strict ≡ false → Faced AtMost strict
at_most_faced e = subst (Faced AtMost) (sym e) (record {
  ordered = at_most_ordered;
  first = λ t u s. side_at_most s;
  first_back = λ t u s. at_most_side s;
  second = λ t u s. side_at_least s;
  second_back = λ t u s. at_least_side s;
})

pub before_faced : {strict : Bool} → strict ≡ true → Faced Before strict
before_faced e = subst (Faced Before) (sym e) (record {
  ordered = before_ordered;
  first = λ t u s. side_before s;
  first_back = λ t u s. before_side s;
  second = λ t u s. side_after s;
  second_back = λ t u s. after_side s;
})

-- ---- both sides

module _ {R : List ℕ → List ℕ → Type 0} {strict : Bool} (f : Faced R strict) (x y : List ℕ) (m M : List ℕ) (least : Extreme Least (shape_of x) m) (greatest : Extreme Greatest (shape_of y) M) where
  -- where some text of X is right, the extreme texts are
  meet : {X' : List Block} → Hull (λ g. Side Least strict (text_of g) M) (shape_of x) X' → R m M
  meet h =
      let s = h.some.satisfies in
      f.ordered.earlier m (text_of h.some.runs) M (of_least (least.first _ (fitting s.filling))) (f.first _ _ s.rule)

  never_second : R m M → None (λ g. Side Greatest strict (text_of g) m) (shape_of y) → ⊥
  never_second r n = n.never greatest.fits.runs
      (record { filling = greatest.fits.filling; rule = subst (λ (t : List ℕ). Side Greatest strict t m) (sym greatest.fits.joined) (f.second_back M m r) })

  never_first : None (λ g. Side Least strict (text_of g) M) (shape_of x) → R m M → ⊥
  never_first n r = n.never least.fits.runs
      (record { filling = least.fits.filling; rule = subst (λ (t : List ℕ). Side Least strict t M) (sym least.fits.joined) (f.first_back m M r) })

  both_of : {ox oy ox' oy' : List ℕ} → OneNarrowed (λ g. Side Least strict (text_of g) M) x ox ox' → OneNarrowed (λ g. Side Greatest strict (text_of g) m) y oy oy' → Narrows R x y ox oy ox' oy'
  both_of a b = record {
    first = a.blocks;
    second = b.blocks;
    size = a.hull.size;
    hull = order_hull R f.ordered m M least greatest
        (same_rule (λ g z s. f.first _ _ s) (λ g z s. f.first_back _ _ s) a.hull)
        (same_rule (λ g z s. f.second _ _ s) (λ g z s. f.second_back _ _ s) b.hull);
    first_output = a.words;
    second_output = b.words;
  }

  pub says_none : {ox oy ox' : List ℕ} {q : Bool} → q ≡ false → One (λ g. Side Least strict (text_of g) M) x ox ox' q → NarrowAnswer R x y ox oy ox' oy q
  says_none n a = record {
    both = λ z. true_false (sym z ∙ n);
    neither = λ z. record { none = order_none R f.ordered m M least greatest (never_first (a.none n)); first_output = a.kept n; second_output = refl };
  }

  pub says_some : {ox oy ox' oy' : List ℕ} {q r : Bool} → q ≡ true → One (λ g. Side Least strict (text_of g) M) x ox ox' q → One (λ g. Side Greatest strict (text_of g) m) y oy oy' r
      → NarrowAnswer R x y ox oy ox' oy' r
  says_some n a b =
      let p = a.some n in
      record {
        both = λ z. both_of p (b.some z);
        neither = λ z. absurd (never_second (meet p.hull) (b.none z));
      }
