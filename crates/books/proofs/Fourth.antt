-- What a right fourth number says: in a join it names a third text, else it is 0. Assumes nothing.
use mathlib.Core.Path.{◌≡◌}
use mathlib.Core.List.{List}
use Prim.Native.Nat.{ℕ}
use Rattle.rules.specs.declared.Rule.{Rule}
use Rattle.texts.specs.Kind.{join_kind}
use Rattle.books.specs.Rules.{Names, RightFourth}
use Rattle.books.specs.Rules.RightFourth.{joins, unused}

module _ {counts : List ℕ} {t : Rule} where
  pub third_named : RightFourth counts t → t.kind ≡ join_kind → Names counts t.c
  third_named (joins k n a b) e = n
  third_named (unused k z) e = absurd (k e)

  pub third_not_first : RightFourth counts t → t.kind ≡ join_kind → t.a ≡ t.c → ⊥
  third_not_first (joins k n a b) e = a
  third_not_first (unused k z) e = absurd (k e)

  pub third_not_second : RightFourth counts t → t.kind ≡ join_kind → t.b ≡ t.c → ⊥
  third_not_second (joins k n a b) e = b
  third_not_second (unused k z) e = absurd (k e)

  pub fourth_zero : RightFourth counts t → (t.kind ≡ join_kind → ⊥) → t.c ≡ 0
  fourth_zero (joins k n a b) e = absurd (e k)
  fourth_zero (unused k z) e = z
