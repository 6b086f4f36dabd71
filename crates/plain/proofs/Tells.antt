-- Answers that tell what they should. Assumes nothing.
use mathlib.Core.Path.{◌≡◌, refl}
use mathlib.Core.Bool.{Bool, true, false, true≢false, false≢true}
use Prim.Native.Nat.{ℕ}
use lib.Dec.{eqb}
use borrow.Author.Tests.{eqb-true, eqb-false}
use Rattle.plain.specs.Tells.{Tells}

pub tells_true : {P : Type 0} → P → Tells true P
tells_true p = record { so = λ e. p; not_so = λ e q. absurd (true≢false e) }

pub tells_false : {P : Type 0} → (P → ⊥) → Tells false P
tells_false n = record { so = λ e. absurd (false≢true e); not_so = λ e p. n p }

-- a test of a bit tells what the bit says
pub tells_bit : {P : Type 0} (x : ℕ) → (x ≡ 1 → P) → (P → x ≡ 1) → Tells (eqb x 1) P
tells_bit x f g = record { so = λ e. f (eqb-true x 1 e); not_so = λ e p. eqb-false x 1 e (g p) }

-- where P holds the answer is true
pub tells_so : {r : Bool} {P : Type 0} → Tells r P → P → r ≡ true
tells_so {r = true} t p = refl
tells_so {r = false} t p = absurd (t.not_so refl p)
