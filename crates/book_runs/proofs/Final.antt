-- What a run keeps because each of its steps does: its final shapes are sound, within those it began with, as many, and
-- of no new characters. Assumes nothing.
use mathlib.Core.Path.{◌≡◌, refl, ◌∙◌}
use mathlib.Core.Bool.{Bool}
use mathlib.Core.List.{List}
use Prim.Native.Nat.{ℕ, ◌^◌, ◌<◌}
use lib.ListN.{length}
use Rattle.plain.specs.All.{All}
use Rattle.shapes.specs.Shape.{Block, Sound}
use Rattle.hulls.specs.Hull.{Hull, Outcome, none, shapes}
use Rattle.hulls.specs.Book.{Within}
use Rattle.hulls.proofs.Hull.{hull_sound, hull_within}
use Rattle.hulls.proofs.Order.{within_refl, within_trans}
use Rattle.hulls.proofs.Small.{within_below}
use Rattle.book_runs.specs.Rounds.{Rounds}
use Rattle.book_runs.specs.Rounds.Rounds.{stops, keeps, changes, round, rests}

-- of an outcome's shapes
OfFinal : (List Block → Type 0) → Outcome → Type 0
OfFinal Q none = Unit {0}
OfFinal Q (shapes H) = Q H

module _ {n : ℕ} {P : ℕ → List (List ℕ) → Type 0} where
  to_the_end : (Q : List Block → Type 0) → ((j : ℕ) (S H : List Block) → j < n → Hull (P j) S H → Q S → Q H)
      → {S : List Block} {k m : ℕ} {c : Bool} {o : Outcome} → Rounds n P S k c o m → Q S → OfFinal Q o
  unfolding OfFinal
  to_the_end Q step (stops l e) a = tt
  to_the_end Q step (keeps l h w) a = to_the_end Q step w a
  to_the_end Q step (changes l h d w) a = to_the_end Q step w (step _ _ _ l h a)
  to_the_end Q step (round e w) a = to_the_end Q step w a
  to_the_end Q step (rests e) a = a

  module _ {S H : List Block} {k m : ℕ} {c : Bool} (w : Rounds n P S k c (shapes H) m) where
    pub kept_end : (Q : List Block → Type 0) → ((j : ℕ) (A B : List Block) → j < n → Hull (P j) A B → Q A → Q B) → Q S → Q H
    unfolding OfFinal
    kept_end Q step = to_the_end Q step w

    pub final_sound : All Sound S → All Sound H
    final_sound = kept_end (All Sound) (λ j A B l h. hull_sound h)

    pub final_within : Within H S
    final_within = kept_end (λ B. Within B S) (λ j A B l h v. within_trans (hull_within h) v) (within_refl S)

    -- no new characters: words that are 0 in each base stay 0
    pub final_below : (j : ℕ) → All (λ b. b.base < 2 ^ j) S → All (λ b. b.base < 2 ^ j) H
    final_below j = kept_end (All (λ b. b.base < 2 ^ j)) (λ i A B l h. within_below j (hull_within h))

    -- no block more or less
    pub final_size : length H ≡ length S
    final_size = kept_end (λ B. length B ≡ length S) (λ j A B l h e. h.size ∙ e) refl
