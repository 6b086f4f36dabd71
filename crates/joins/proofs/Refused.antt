-- One join has one refusal, and none if it is accepted. Assumes nothing.
use mathlib.Core.Path.{◌≡◌}
use mathlib.Core.List.{List}
use Prim.Native.Nat.{ℕ}
use Rattle.answers.specs.Told.{Told}
use Rattle.answers.proofs.Turns.{OneOf, need_one, in_turn_one}
use Rattle.shapes.proofs.Refused.{of_shape_lem}
use Rattle.joins.specs.Refused.{JoinAccepted, JoinRoom, join_turns, JoinRefused, of_join}

module _ {xs ys zs : List ℕ} {w a b c : ℕ} where
  of_join_lem : OneOf (of_join xs ys zs w a b c)
  of_join_lem = in_turn_one (join_turns xs ys zs w a b c) (of_shape_lem, (of_shape_lem, (of_shape_lem, (need_one, (need_one, (need_one, (need_one, (need_one, tt))))))))
      (λ (ok, r). (ok.first, (ok.second, (ok.third, (ok.short, (r.work, (r.first, (r.second, (r.third, tt)))))))))

  pub join_refused_one : {t u : Told} → JoinRefused xs ys zs w a b c t → JoinRefused xs ys zs w a b c u → t ≡ u
  join_refused_one p q = of_join_lem.one p q

  pub join_refused_not : {t : Told} → JoinRefused xs ys zs w a b c t → JoinAccepted xs ys zs → JoinRoom xs ys zs w a b c → ⊥
  join_refused_not p ok r = of_join_lem.not p (ok, r)
