-- One input has one refusal, and none where a text is written. Assumes nothing.
use mathlib.Core.Path.{◌≡◌}
use mathlib.Core.List.{List}
use Prim.Native.Nat.{ℕ, ◌≤◌}
use Rattle.answers.specs.Told.{Told}
use Rattle.answers.specs.Turns.{in_turn}
use Rattle.answers.proofs.Turns.{OneOf, need_one, in_turn_one}
use Rattle.shapes.specs.Lent.{Accepted}
use Rattle.shapes.proofs.Refused.{of_shape_lem}
use Rattle.extremes.specs.Extreme.{text_turns, TextRefused}

module _ {xs : List ℕ} {a : ℕ} where
  of_text_lem : OneOf (in_turn (Accepted xs × (250 ≤ a)) (text_turns xs a))
  of_text_lem = in_turn_one (text_turns xs a) (of_shape_lem, (need_one, tt)) (λ (ok, room). (ok, (room, tt)))

  pub text_one : {t u : Told} → TextRefused xs a t → TextRefused xs a u → t ≡ u
  text_one p q = of_text_lem.one p q

  pub text_not : {t : Told} → TextRefused xs a t → Accepted xs → 250 ≤ a → ⊥
  text_not p ok room = of_text_lem.not p (ok, room)
