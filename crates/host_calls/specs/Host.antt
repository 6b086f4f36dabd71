-- Document 02, order 4: the call of the bench host. It lends a book's bytes, a report buffer and the work buffer, and
-- gets one signed number.
use Rattle.std.specs.Prelude.{◌≡◌, List, ℕ, ℤ, pos, neg_ℤ, Result, Ok, Err}
use Rattle.answers.specs.Told.{told}
use Rattle.answers.specs.declared.Refusal.{Refusal}
use Rattle.file_runs.specs.Promise.{LentPromise}

-- "the refusal's number made negative"; "this call alone gives no place"
abbrev pub negated : Refusal → ℤ
negated r = neg_ℤ (pos (told r).number)

-- "gets the number of bytes written, or the refusal's number made negative"
abbrev pub handed : Result ℕ Refusal → ℤ
handed (Ok n) = pos n
handed (Err r) = negated r

-- The number is that of an answer of running the book's bytes with lent work; that run says what is left in both
-- buffers.
pub record HostPromise (book report work report' work' : List ℕ) (z : ℤ) : Type 0 where
  pub answer : Result ℕ Refusal
  pub runs : LentPromise book report work report' work' answer
  pub number : z ≡ handed answer
