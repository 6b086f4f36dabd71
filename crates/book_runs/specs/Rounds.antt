-- Document 01, "A book and its run": the runner, step by step.
use Rattle.std.specs.Prelude.{◌≡◌, Bool, true, false, List, ℕ, zero, suc, ◌<◌}
use Rattle.shapes.specs.Shape.{Block}
use Rattle.shapes.specs.Lent.{shape_of}
use Rattle.hulls.specs.Hull.{None, Hull, Outcome, none, shapes}
use Rattle.rules.specs.Rule.{rule_count}
use Rattle.books.specs.Rules.{rule_of}

-- The runner applies the n rules in book order, round after round, each on the blocks so far.
-- `Rounds n P S k c o m`: with the blocks S, before rule k, from 0, of a round that has changed something exactly if c
-- is true, it goes on to the outcome o and makes m more applications, the last included.
pub data Rounds (n : ℕ) (P : ℕ → List (List ℕ) → Type 0) : List Block → ℕ → Bool → Outcome → ℕ → Type 0 where
  -- it stops at the first none
  stops : {S : List Block} {k : ℕ} {c : Bool} → k < n → None (P k) S → Rounds n P S k c none (suc zero)
  -- rule k changes nothing
  keeps : {S : List Block} {k : ℕ} {c : Bool} {o : Outcome} {m : ℕ} → k < n → Hull (P k) S S → Rounds n P S (suc k) c o m → Rounds n P S k c o (suc m)
  -- rule k changes something
  changes : {S H : List Block} {k : ℕ} {c : Bool} {o : Outcome} {m : ℕ} → k < n → Hull (P k) S H → (H ≡ S → ⊥) → Rounds n P H (suc k) true o m
      → Rounds n P S k c o (suc m)
  -- after a round that changed something comes another
  round : {S : List Block} {k : ℕ} {o : Outcome} {m : ℕ} → k ≡ n → Rounds n P S zero false o m → Rounds n P S k true o m
  -- it stops after the first round that changes nothing
  rests : {S : List Block} {k : ℕ} → k ≡ n → Rounds n P S k false (shapes S) zero

-- The run of a book from its entered shapes, with the count of applications.
abbrev pub BookRun : List ℕ → List ℕ → List ℕ → Outcome → ℕ → Type 0
BookRun counts blocks rules o m = Rounds (rule_count rules) (rule_of counts rules) (shape_of blocks) 0 false o m
