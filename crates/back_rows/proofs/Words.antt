-- What is gathered, by whatever stands for a set as a row. Assumes nothing.
use mathlib.Core.Path.{◌≡◌, sym, ap, ◌∙◌, subst}
use Prim.Native.Nat.{ℕ}
use lib.Bits.{bit_or}
use Rattle.sets.specs.Set.{Exactly}
use Rattle.shapes.specs.Shape.{Block}
use Rattle.rows.specs.Steps.{Lands}
use Rattle.row_paths.specs.Rows.{Into}

-- by whatever stands for the row, and for what is added
pub into_as : {Y : ℕ → Block} {base r row row' : ℕ} → row ≡ row' → Exactly r (Into Y base row') → Exactly r (Into Y base row)
into_as {Y} {base} {r} e x = subst (λ (v : ℕ). Exactly r (Into Y base v)) (sym e) x

pub lands_as : {A B : ℕ → ℕ} {k r row row' : ℕ} → row ≡ row' → Exactly r (Lands A B k row') → Exactly r (Lands A B k row)
lands_as {A} {B} {k} {r} e x = subst (λ (v : ℕ). Exactly r (Lands A B k v)) (sym e) x

pub added_as : (s : ℕ) {r t t' : ℕ} → r ≡ bit_or s t → t ≡ t' → r ≡ bit_or s t'
added_as s e d = e ∙ ap (bit_or s) d
