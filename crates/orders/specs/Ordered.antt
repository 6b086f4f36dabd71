-- Document 01, "Narrowing": the relations "X at most Y" and "X before Y". Narrows go along with the order of texts.
use Rattle.std.specs.Prelude.{List, ℕ}
use Rattle.texts.specs.Order.{AtMost}

-- what holds of an earlier first text and a later second one too
pub record Ordered (R : List ℕ → List ℕ → Type 0) : Type 0 where
  pub earlier : (t u v : List ℕ) → AtMost t u → R u v → R t v
  pub later : (t u v : List ℕ) → R t u → AtMost u v → R t v
