-- The number that a host is handed: its sign tells a report from a refusal, and its size which. Assumes nothing.
use Rattle.std.specs.Prelude.{Result, Ok, Err}
use mathlib.Core.Path.{◌≡◌, refl, sym, ap, ◌∙◌, subst}
use mathlib.Core.List.{List}
use Prim.Native.Nat.{ℕ, zero, suc, ◌≤◌}
use native.Mathlib.Omega.{arith}
use lib.IntN.{ℤ, pos, negsuc, neg_ℤ}
use Rattle.answers.specs.Told.{told}
use Rattle.answers.specs.declared.Refusal.{Refusal}
use Rattle.answers.proofs.Told.{numbered}
use Rattle.file_runs.specs.Promise.{LentPromise}
use Rattle.host_calls.specs.Host.{negated, handed, HostPromise}

-- the size of a number, and whether it is below zero
size : ℤ → ℕ
size (pos n) = n
size (negsuc n) = suc n

Below : ℤ → Type 0
Below (pos n) = ⊥
Below (negsuc n) = Unit {0}

size_neg : (n : ℕ) → size (neg_ℤ (pos n)) ≡ n
unfolding size
size_neg zero = refl
size_neg (suc n) = refl

below_neg : (n : ℕ) → 1 ≤ n → Below (neg_ℤ (pos n))
unfolding Below
below_neg zero h = absurd (omega arith)
below_neg (suc n) h = tt

-- no count of bytes is a refusal
pub not_count : (n : ℕ) (r : Refusal) → pos n ≡ negated r → ⊥
unfolding Below
not_count n r e = subst Below (sym e) (below_neg (told r).number (numbered r).0)

-- the number tells the refusal's number, and a count
pub same_number : (r s : Refusal) → negated r ≡ negated s → (told r).number ≡ (told s).number
same_number r s e = sym (size_neg (told r).number) ∙ ap size e ∙ size_neg (told s).number

pub same_count : {n m : ℕ} → ◌≡◌ {A = ℤ} (pos n) (pos m) → n ≡ m
unfolding size
same_count e = ap size e

-- ---- what the number tells of the answer

pub host_written : (book report work report' work' : List ℕ) (n : ℕ) → HostPromise book report work report' work' (pos n)
    → LentPromise book report work report' work' (Ok n)
host_written book report work report' work' n p = of p.answer p.runs p.number
  where
    of : (x : Result ℕ Refusal) → LentPromise book report work report' work' x → pos n ≡ handed x → LentPromise book report work report' work' (Ok n)
    of (Ok m) l e = subst (λ (k : ℕ). LentPromise book report work report' work' (Ok k)) (sym (same_count e)) l
    of (Err q) l e = absurd (not_count n q e)

pub host_refused : (book report work report' work' : List ℕ) (q : Refusal) → HostPromise book report work report' work' (negated q)
    → (r : Refusal) × LentPromise book report work report' work' (Err r) × ((told r).number ≡ (told q).number)
host_refused book report work report' work' q p = of p.answer p.runs p.number
  where
    of : (x : Result ℕ Refusal) → LentPromise book report work report' work' x → negated q ≡ handed x
        → (r : Refusal) × LentPromise book report work report' work' (Err r) × ((told r).number ≡ (told q).number)
    of (Ok m) l e = absurd (not_count m q (sym e))
    of (Err r) l e = (r, l, sym (same_number q r e))
