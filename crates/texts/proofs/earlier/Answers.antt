-- `texts::earlier`: `<` on two texts is `Before`. Assumes nothing.
use Rattle.std.proofs.Common.{◌≡◌, ℕ, true, false, List, [], ◌∷◌, refl, sym, ap, ◌∙◌, Ordering, Less, Equal, Greater}
use Rattle.std.specs.Prelude.{Option, Some}
use Rattle.std.specs.Ordering.{nat_cmp, is_lt, is_some_and, partial_ordering_then}
use Rattle.std.specs.Cmp.{nat_cmp_is}
use Rattle.std.specs.Cmp.Lexicographic.{slice_partial_cmp}
use Rattle.texts.specs.Order.{AtMost, Before}
use Rattle.texts.specs.Order.AtMost.{ends as at-ends, less as at_less, same as at_same}
use Rattle.texts.specs.Order.Before.{ends, less, same}
use Rattle.texts.proofs.earlier.Goals as goal

abbrev rest : List ℕ → List ℕ → Option Ordering
rest = slice_partial_cmp (λ x y. Some (nat_cmp x y))

-- two texts of which one character each is compared
by_heads : (t u : List ℕ) (c d : ℕ) (o : Ordering) → o ≡ nat_cmp c d → is_some_and is_lt (rest (c ∷ t) (d ∷ u)) ≡ is_some_and is_lt (partial_ordering_then (Some o) (rest t u))
by_heads t u c d o e = ap (λ (r : Ordering). is_some_and is_lt (partial_ordering_then (Some r) (rest t u))) (sym e)

before_less : {t u : List ℕ} → Before t u → is_some_and is_lt (rest t u) ≡ true
before_less ends = refl
before_less (less {c} {d} {t} {u} h) = by_heads t u c d Less (nat_cmp_is c d Less h)
before_less (same {c} {t} {u} p) = by_heads t u c c Equal (nat_cmp_is c c Equal refl) ∙ before_less p

at_most_not : {t u : List ℕ} → AtMost t u → is_some_and is_lt (rest u t) ≡ false
at_most_not (at-ends {u = []}) = refl
at_most_not (at-ends {u = d ∷ u}) = refl
at_most_not (at_less {c} {d} {t} {u} h) = by_heads u t d c Greater (nat_cmp_is d c Greater h)
at_most_not (at_same {c} {t} {u} p) = by_heads u t c c Equal (nat_cmp_is c c Equal refl) ∙ at_most_not p

pub returns-then-lt-clause-value : goal.returns-then-lt-clause-value
returns-then-lt-clause-value c = λ p. let e = at_most_not p in let h = c.if-lt.ensures in cc

pub returns-else-lt-clause-value_2 : goal.returns-else-lt-clause-value_2
returns-else-lt-clause-value_2 c = λ p. let e = before_less p in let h = c.if-lt.ensures in cc
