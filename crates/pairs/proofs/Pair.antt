-- The refusals of a pair: one input has one answer. Assumes nothing.
use mathlib.Core.Path.{◌≡◌}
use mathlib.Core.List.{List}
use Prim.Native.Nat.{ℕ}
use Rattle.answers.specs.Told.{Told}
use Rattle.answers.specs.Turns.{here, later}
use Rattle.std.specs.Prelude.{Result, Ok, Err}
use Rattle.answers.specs.declared.Refusal.{Refusal}
use Rattle.answers.proofs.Turns.{OneOf, need_one, in_turn_one}
use Rattle.shapes.specs.Lent.{Accepted, ShapeChecked}
use Rattle.shapes.proofs.Refused.{of_shape_lem, Other, shape_other}
use Rattle.pairs.specs.Pair.{PairAccepted, pair_turns, PairRefused, of_pair, PairChecked, Room, narrow_turns, NarrowRefused, of_narrowing}

pub second_checked : (xs ys : List ℕ) (r : Result Unit Refusal) → Accepted xs → ShapeChecked 2 ys r → PairChecked xs ys r
second_checked xs ys (Ok _) a b = record { first = a; second = b }
second_checked xs ys (Err r) a b = later a (here b)

pub of_pair_lem : {xs ys : List ℕ} → OneOf (of_pair xs ys)
of_pair_lem {xs} {ys} = in_turn_one (pair_turns xs ys) (of_shape_lem, (of_shape_lem, tt)) (λ a. (a.first, (a.second, tt)))

pub pair_not : {xs ys : List ℕ} {t : Told} → PairRefused xs ys t → PairAccepted xs ys → ⊥
pair_not p a = of_pair_lem.not p a

module _ {xs ys : List ℕ} {w a b : ℕ} where
  of_narrowing_lem : OneOf (of_narrowing xs ys w a b)
  of_narrowing_lem = in_turn_one (narrow_turns xs ys w a b) (of_pair_lem, (need_one, (need_one, (need_one, tt))))
      (λ ok. (ok.0, (ok.1.work, (ok.1.first, (ok.1.second, tt)))))

  pub narrow_one : {t u : Told} → NarrowRefused xs ys w a b t → NarrowRefused xs ys w a b u → t ≡ u
  narrow_one p q = of_narrowing_lem.one p q

  pub narrow_not : {t : Told} → NarrowRefused xs ys w a b t → PairAccepted xs ys → Room xs ys w a b → ⊥
  narrow_not p ok r = of_narrowing_lem.not p (ok, r)

-- the numbers of its refusals are those of a shape
pub pair_other : {m : ℕ} {xs ys : List ℕ} {t : Told} → Other m → PairRefused xs ys t → t.number ≡ m → ⊥
pair_other o (here d) n = shape_other o d n
pair_other {m = m} {xs = xs} {ys = ys} {t = t} o (later a (later _ x4)) n = elim x4 [ ]
pair_other o (later a (here d)) n = shape_other o d n
