-- For any one book and lent buffers, two permitted outcomes of the call are equal: the number, and every byte of both
-- buffers. Assumes nothing.
use mathlib.Core.Path.{◌≡◌, sym, ap, ◌∙◌}
use mathlib.Core.List.{List}
use Prim.Native.Nat.{ℕ}
use lib.IntN.{ℤ}
use Rattle.file_runs.proofs.Determined.{lent_determined}
use Rattle.host_calls.specs.Host.{handed, HostPromise}

pub host_determined : (book report work b c v w : List ℕ) (y z : ℤ) → HostPromise book report work b v y → HostPromise book report work c w z
    → (y ≡ z) × (b ≡ c) × (v ≡ w)
host_determined book report work b c v w y z p q =
    let one = lent_determined book report work b c v w p.answer q.answer p.runs q.runs in
    (p.number ∙ ap handed one.0 ∙ sym q.number, one.1, one.2)
