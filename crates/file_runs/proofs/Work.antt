-- What the size of the work buffer decides: 4, and nothing else. Assumes nothing.
use mathlib.Core.List.{List}
use Prim.Native.Nat.{ℕ, ◌≤◌, ◌<◌}
use native.Mathlib.Omega.{arith}
use Rattle.answers.specs.Told.{Told, tell}
use Rattle.answers.specs.Turns.{here, later}
use Rattle.answers.proofs.Turns.{lacks}
use Rattle.books.specs.Refused.{BookRefused, BookAccepted}

-- a book accepted with some work buffer is accepted with one of 63,001 bytes
pub own_work : {counts blocks rules : List ℕ} {work : ℕ} → BookAccepted counts blocks rules work → BookAccepted counts blocks rules 63001
own_work a = record { counted = a.counted; texts = a.texts; right = a.right; room = omega arith }

-- with a smaller one it is refused with 4
pub lacks_work : {counts blocks rules : List ℕ} {work other : ℕ} → other < 63001 → BookAccepted counts blocks rules work
    → BookRefused counts blocks rules other (tell 4 0 0)
lacks_work h a = later a.counted (later a.texts (later a.right (here (lacks (λ g. omega arith)))))

-- what a book is refused for with enough work, it is refused for with any
pub any_work : {counts blocks rules : List ℕ} {work other : ℕ} {t : Told} → 63001 ≤ work → BookRefused counts blocks rules work t
    → BookRefused counts blocks rules other t
any_work h (here p) = here p
any_work h (later c (here p)) = later c (here p)
any_work h (later c (later s (here p))) = later c (later s (here p))
any_work {counts = counts} {blocks = blocks} {rules = rules} {work = work} {other = other} {t = t} h (later c (later s (later r (later _ x5)))) = elim x5 [ ]
any_work h (later c (later s (later r (here p)))) = absurd (p.lacking h)
