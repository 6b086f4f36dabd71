-- Document 01, "The quick sweep": what an answer and its output tell of the texts of the two shapes.
use Rattle.std.specs.Prelude.{◌≡◌, List, ℕ, ◌+◌, ◌*◌, ◌≤◌, ◌<◌, length, get_or}
use Rattle.answers.specs.declared.Swept.{Swept}
use Rattle.shapes.specs.Shape.{Block, Filling, text_of, Fits}
use Rattle.sweep_steps.specs.Places.{at}
use Rattle.sweep_steps.specs.Names.{start_of, AtOrBefore, Latest}
use Rattle.sweep_steps.specs.declared.Place.{Place}

pub record Means (x y : List Block) (r : Swept) (out : List ℕ) : Type 0 where
  -- cannot only where no text fits both
  pub none : (k : ℕ) → r ≡ Swept.Cannot k → (t : List ℕ) → Fits x t → Fits y t → ⊥
  -- for each pair of fillings with one text and each block of X, the latest name of the boundary where that block's run
  -- starts is never before the place in the output
  pub not_late : (k : ℕ) → r ≡ Swept.Places k → (f g : List (List ℕ)) → Filling x f → Filling y g → text_of f ≡ text_of g
      → (i : ℕ) → i < length x → (q : Place) → Latest g (start_of f i) q → AtOrBefore (at (get_or out (2 * i) 0) (get_or out (2 * i + 1) 0)) q
  -- at most 2 (n + m) looks
  pub few_places : (k : ℕ) → r ≡ Swept.Places k → k ≤ 2 * (length x + length y)
  pub few_cannot : (k : ℕ) → r ≡ Swept.Cannot k → k ≤ 2 * (length x + length y)
